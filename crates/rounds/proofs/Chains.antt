-- What a chain gives that keeps the better of the tentative totals that come.
-- Assumes nothing.
use Rattle.std.proofs.Common.{◌≡◌, ℕ, suc, ◌+◌, ◌<◌, Bool, List, [], ◌∷◌, length, get_or, Some, None, Option, sym, refl, ap, ap₂, ◌∙◌, suc-le-suc, add-zero, zero-add, arith}
use Rattle.std.specs.Iterator.{Drains, ReducesItems}
use Rattle.std.specs.List.{fold, reduce, cons_option, filter_map}
use Rattle.std.proofs.lemmas.Fn.{fold_same}
use Rattle.std.proofs.lemmas.Iterator.{YieldsList, items_from_drains}
use Rattle.std.proofs.lemmas.List.{map-id}
use Rattle.std.proofs.lemmas.List.Sums.{fold-append}
use denote.Param.Members.{Mut, Called}
use Rattle.rounds.specs.declared.graph.Tentative.{Tentative}
use Rattle.rounds.specs.Rounds.{better_of, better, best_below}

module _ {S A : Type 0} {steps : S → Option A → S → Type 0} where
  -- the items that came up to the end are those that the iterator yields
  came : (s : S) (all xs : List A) → Drains steps s xs → YieldsList steps (λ x. x) s all → xs ≡ all
  came s all xs d yields = sym (map-id xs) ∙ items_from_drains xs (d.1.0, d.1.1, λ _. (d.0, d.1.2)) yields

  -- what `reduce` answers, where its closure computes h
  reduced : {F : Type 0} {s : S} {all : List A} (g : Mut F (A × (A × Unit {0})) A) (h : A → A → A) {f : F} (r : Option A) → ReducesItems steps g s f r → YieldsList steps (λ x. x) s all → ((a x b : A) (f' : F) → Called g f (a, (x, tt)) b f' → (b ≡ h a x) × (f' ≡ f)) → r ≡ reduce h all
  reduced {s = s} {all = all} g h None drained yields calls = ap (reduce h) (came s all [] drained yields)
  reduced {F = F} {s = s} {all = all} g h {f = f} (Some y) ran yields calls =
      let x = ran.0 in
      let xs = ran.1 in
      let last : y ≡ fold h x xs =
      fold_same g (λ ys b. b ≡ fold h x ys) f
      (λ ys a z b f' so_far call.
      let one = calls a z b f' call in
      (one.0 ∙ ap (λ (v : A). h v z) so_far ∙ sym (fold-append h x ys (z ∷ [])), one.1))
      xs x y ran.2 refl ran.4 in
      ap Some last ∙ ap (reduce h) (came s all (x ∷ xs) ran.3 yields)

module _ {T : Type 0} (le : T → T → Bool) where
  -- the best of what is there and of a list
  abbrev best_with : Option (Tentative T) → List (Tentative T) → Option (Tentative T)
  best_with None os = reduce (better_of le) os
  best_with (Some a) os = Some (fold (better_of le) a os)

  best_with-nil : (b : Option (Tentative T)) → best_with b [] ≡ b
  best_with-nil None = refl
  best_with-nil (Some a) = refl

  best_with-cons : (b o : Option (Tentative T)) (os : List (Tentative T)) → best_with b (cons_option o os) ≡ best_with (better le b o) os
  best_with-cons None None os = refl
  best_with-cons None (Some o) os = refl
  best_with-cons (Some b) None os = refl
  best_with-cons (Some b) (Some o) os = refl

  best_from : {A : Type 0} (try : A → Option (Tentative T)) (rule : ℕ → Option (Tentative T)) (xs : List A) (n : ℕ) (b : Option (Tentative T)) → ((k : ℕ) (d : A) → k < length xs → try (get_or xs k d) ≡ rule (n + k)) → b ≡ best_below le rule n → best_with b (filter_map try xs) ≡ best_below le rule (n + length xs)
  best_from try rule [] n b same e = best_with-nil b ∙ e ∙ ap (best_below le rule) (sym (add-zero n))
  best_from try rule (x ∷ xs) n b same e =
      let later : suc n + length xs ≡ n + suc (length xs) = omega arith in
      best_with-cons b (try x) (filter_map try xs)
      ∙ best_from try rule xs (suc n) (better le b (try x)) (λ k d h. let e : n + suc k ≡ suc n + k = omega arith in same (suc k) d (suc-le-suc h) ∙ ap rule e) (ap₂ (better le) e (same 0 x (omega arith) ∙ ap rule (add-zero n)))
      ∙ ap (best_below le rule) later

  -- what a chain answers that keeps the better, where the members of a list give what a rule does for their places
  pub best_of_chain : {S F A : Type 0} {steps : S → Option (Tentative T) → S → Type 0} {s : S} (g : Mut F (Tentative T × (Tentative T × Unit {0})) (Tentative T)) {f : F} {r : Option (Tentative T)} (try : A → Option (Tentative T)) (rule : ℕ → Option (Tentative T)) (xs : List A) → ReducesItems steps g s f r → YieldsList steps (λ x. x) s (filter_map try xs) → ((a x b : Tentative T) (f' : F) → Called g f (a, (x, tt)) b f' → (b ≡ better_of le a x) × (f' ≡ f)) → ((k : ℕ) (d : A) → k < length xs → try (get_or xs k d) ≡ rule k) → r ≡ best_below le rule (length xs)
  best_of_chain g {r = r} try rule xs ran yields calls same =
      reduced g (better_of le) r ran yields calls
      ∙ best_from try rule xs 0 None (λ k d h. same k d h ∙ ap rule (sym (zero-add k))) refl
      ∙ ap (best_below le rule) (zero-add (length xs))
