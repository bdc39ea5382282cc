-- The result of a call: document 01's number where it is refused.
use Rattle.std.specs.Prelude.{ℕ, Result, Ok, Err}
use Rattle.image_laws.specs.declared.Fault.{Fault}
use Rattle.image_laws.specs.declared.Fault.TheVariants.{Misfit, Damaged}

-- "1 and 2 refuse the call, are its result (0 otherwise)": 1 misfit, 2 damaged
abbrev pub fault_number : Fault → ℕ
fault_number Misfit = 1
fault_number Damaged = 2

abbrev pub result_of : Result (Unit {0}) Fault → ℕ
result_of (Ok u) = 0
result_of (Err f) = fault_number f
