-- The number of each kind, and what is said of a number: whose it is.
use Rattle.std.specs.Prelude.{◌≡◌, ℕ, Result, Ok, Err}
use Rattle.model.specs.Records.{kind_of, unknown}
use Rattle.request_laws.specs.declared.Kind.{Kind}
use Rattle.request_laws.specs.declared.Kind.TheVariants.{New, Load, Store, Barrier, Hand, Drop, Read, Write, Begin, Scan, Trace, Clean, Finish, Due, Undirty}
use Rattle.request_laws.specs.declared.Refusal.{Refusal}
use Rattle.request_laws.specs.declared.Refusal.TheVariants.{Unknown}

-- "kinds 1 to 14"; document 02: "kind 15"
abbrev pub kind_number : Kind → ℕ
kind_number New = 1
kind_number Load = 2
kind_number Store = 3
kind_number Barrier = 4
kind_number Hand = 5
kind_number Drop = 6
kind_number Read = 7
kind_number Write = 8
kind_number Begin = 9
kind_number Scan = 10
kind_number Trace = 11
kind_number Clean = 12
kind_number Finish = 13
kind_number Due = 14
kind_number Undirty = 15

-- a number is a kind's, or that of no kind
abbrev pub Named : ℕ → Result Kind Refusal → Type 0
Named n (Ok kind) = n ≡ kind_number kind
Named n (Err e) = (e ≡ Unknown) × (kind_of n ≡ unknown)
