-- The kinds of records.
use Rattle.std.specs.Prelude.{ℕ, cond, Ok, Err, Result, ◌==◌}
use Rattle.records.specs.declared.part.Part.{Part}
use Rattle.records.specs.declared.refusal.Refusal.{Refusal}
use Rattle.records.specs.declared.refusal.Fault.TheVariants.{Kind}
use Rattle.records.specs.declared.kinds.Record.{Record}
use Rattle.records.specs.declared.kinds.Record.TheVariants.{Term, Aim, Action, Sensing, Literal, Outcome, Effect, SensedLiteral, Unknown}

-- a part of the file shown as what its kind says; a kind that no record has is at fault
abbrev pub recognised : ℕ → Part → Result Record Refusal
recognised kd p =
    cond (kd == 1) (Ok (Term p)) (cond (kd == 2) (Ok (Aim p)) (cond (kd == 3) (Ok (Action p)) (cond (kd == 4) (Ok (Sensing p))
    (cond (kd == 5) (Ok (Literal p)) (cond (kd == 6) (Ok (Outcome p)) (cond (kd == 7) (Ok (Effect p)) (cond (kd == 8) (Ok (SensedLiteral p))
    (Err (record { fault = Kind; «record» = p.number })))))))))

-- any part of the file shown as what its kind says
abbrev pub shown : ℕ → Part → Record
shown kd p =
    cond (kd == 1) (Term p) (cond (kd == 2) (Aim p) (cond (kd == 3) (Action p) (cond (kd == 4) (Sensing p)
    (cond (kd == 5) (Literal p) (cond (kd == 6) (Outcome p) (cond (kd == 7) (Effect p) (cond (kd == 8) (SensedLiteral p)
    (Unknown p))))))))
