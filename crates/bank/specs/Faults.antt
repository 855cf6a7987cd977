-- The number of each fault of a bank.
use Rattle.std.specs.Prelude.{ℕ}
use Rattle.bank.specs.declared.fault.BankFault.{BankFault}
use Rattle.bank.specs.declared.fault.BankFault.TheVariants.{Conditions, NoSet, Full, Wide, EmptySide, WrongStep}

abbrev pub number_of : BankFault → ℕ
number_of Conditions = 20
number_of NoSet = 21
number_of Full = 22
number_of Wide = 23
number_of EmptySide = 24
number_of WrongStep = 25
