-- A record of a chain whose links are good.
use Rattle.std.specs.Prelude.{◌≡◌, ℕ, ◌<◌, true, List}
use Rattle.records.specs.declared.part.Part.{Part}
use Rattle.records.specs.Layout.{part, links_good}

-- a record k of the file f whose links are good is handed out, with the bytes that it covers
pub record Handed (f : List ℕ) (k : ℕ) (p : Part) : Type 0 where
  pub some : 0 < k
  pub number : p.number ≡ k
  pub bytes : p.bytes.now ≡ part f k
  pub links : links_good f k ≡ true
