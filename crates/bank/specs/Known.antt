-- What is known of a literal in a held set.
use Rattle.std.specs.Prelude.{ℕ, cond, [], ◌∷◌, Result}
use Rattle.worlds.specs.Worlds.{Literal, opposite}
use Rattle.worlds.specs.Sets.{all_meet}
use Rattle.bank.specs.declared.fault.BankFault.{BankFault}
use Rattle.bank.specs.declared.known.Known as code
use Rattle.bank.specs.declared.known.Known.TheVariants.{True, False, Unknown}
use Rattle.bank.specs.Meaning.{Meaning}
use Rattle.bank.specs.Calls.{unless, holds_fault, set_at}

abbrev pub knowledge : ℕ → Literal → Meaning → code.Known
knowledge set l m =
    cond (all_meet m.ticket.conditions (set_at m.ticket.conditions m.held set) (l ∷ [])) True
    (cond (all_meet m.ticket.conditions (set_at m.ticket.conditions m.held set) (opposite l ∷ [])) False Unknown)

abbrev pub knows : ℕ → Literal → Meaning → Result code.Known BankFault
knows set l m = unless (holds_fault set (l ∷ []) m) (knowledge set l m)
