-- The kinds, a kind_row for each: what its fields are, and what it asks for. A kind more is a kind_row here, and a line in `act_by`.
use Rattle.std.specs.Prelude.{Bool, true, List, [], ◌∷◌, ℕ, leb, eqb}
use Rattle.std.proofs.Math.Bool.{false}
use Rattle.model.specs.Records.{Step, Kind, new, load, store, barrier, hand_over, drop_reg, read, write, begin, scan, trace, clean, finish, is_due, undirty, unknown}

-- ---- the table

-- what a field is: not named, the number of a player, a tracer, a register or a card, or any number
pub data Role : Type 0 where
  unused player tracer register card number : Role

pub data Field : Type 0 where
  in_a in_b in_c : Field

-- the link or level word that a kind goes to: the field that is the object's register, and the field that says which word
pub data Target : Type 0 where
  nowhere : Target
  link_at level_at : Field → Field → Target

pub data Phase : Type 0 where
  any_phase no_cycle in_cycle : Phase

-- the kind's number, or 0; the roles of its fields; whether its players must owe nothing; where it goes; in which phase
pub record KindRow : Type 0 where
  pub code : ℕ
  pub who : Role
  pub a : Role
  pub b : Role
  pub c : Role
  pub unowing : Bool
  pub target : Target
  pub phase : Phase

unfoldable pub kind_row : ℕ → Role → Role → Role → Role → Bool → Target → Phase → KindRow
kind_row n w a b c u p h = record { code = n; who = w; a = a; b = b; c = c; unowing = u; target = p; phase = h }

unfoldable pub row_of : Kind → KindRow
unfolding kind_row
row_of new = kind_row 1 player register number number true nowhere any_phase
row_of load = kind_row 2 player register register number true (link_at in_b in_c) any_phase
row_of store = kind_row 3 player register number register true (link_at in_a in_b) any_phase
row_of barrier = kind_row 4 player unused unused unused false nowhere any_phase
row_of hand_over = kind_row 5 player register player register true nowhere any_phase
row_of drop_reg = kind_row 6 player register unused unused true nowhere any_phase
row_of read = kind_row 7 player register number unused true (level_at in_a in_b) any_phase
row_of write = kind_row 8 player register number number true (level_at in_a in_b) any_phase
row_of begin = kind_row 9 unused unused unused unused false nowhere no_cycle
row_of scan = kind_row 10 tracer player unused unused false nowhere in_cycle
row_of trace = kind_row 11 tracer unused unused unused false nowhere in_cycle
row_of clean = kind_row 12 tracer unused unused unused false nowhere in_cycle
row_of finish = kind_row 13 unused unused unused unused false nowhere in_cycle
row_of is_due = kind_row 14 unused number unused unused false nowhere any_phase
-- document 02, (ii): "Step 15, undirty, names a card in a, with its second byte 0"
row_of undirty = kind_row 15 unused card unused unused false nowhere in_cycle
row_of unknown = kind_row 0 number number number number false nowhere any_phase

-- ---- one kind and another

unfoldable pub is : Kind → Kind → Bool
unfolding row_of
is n x = eqb (row_of n).code (row_of x).code

-- what a list has for kind n, and z where it has nothing
unfoldable pub for_kind : {A : Type 0} → A → Kind → List (Kind × A) → A
unfolding is
for_kind z n [] = z
for_kind z n (x ∷ xs) = elim (is n x.0) [ true ↦ x.1 | false ↦ for_kind z n xs ]

-- ---- one role and a number

unfoldable pub is_unused : Role → Bool
is_unused unused = true
is_unused player = false
is_unused tracer = false
is_unused register = false
is_unused card = false
is_unused number = false

unfoldable pub is_player : Role → Bool
is_player unused = false
is_player player = true
is_player tracer = false
is_player register = false
is_player card = false
is_player number = false

-- what the numbers of a role stay below, if anything
pub data Limit : Type 0 where
  no_limit : Limit
  below : ℕ → Limit

-- "player or register above 15, tracer above 7", "4 if the card doesn't exist"; k is the number of cards
unfoldable pub limit : ℕ → Role → Limit
limit k unused = no_limit
limit k player = below 16
limit k tracer = below 8
limit k register = below 16
limit k card = below k
limit k number = no_limit

unfoldable pub reaches : Limit → ℕ → Bool
reaches no_limit x = false
reaches (below l) x = leb l x

-- ---- a record by its kind's kind_row

module _ (s : Step) where
  -- a test of each field by its role
  unfoldable pub fields : (Role → ℕ → Bool) → KindRow → List Bool
  fields f r = f r.who s.who ∷ f r.a s.a ∷ f r.b s.b ∷ f r.c s.c ∷ []

  unfoldable pub field_of : Field → ℕ
  field_of in_a = s.a
  field_of in_b = s.b
  field_of in_c = s.c

  -- a test of the object's register and the word's index, by what the word is; none passes where the kind goes nowhere
  unfoldable pub at_target : (link level : ℕ → ℕ → Bool) → Target → Bool
  unfolding field_of
  at_target l v nowhere = false
  at_target l v (link_at r i) = l (field_of r) (field_of i)
  at_target l v (level_at r i) = v (field_of r) (field_of i)

-- opens all of these
unfoldable pub rows_open : ℕ
unfolding kind_row row_of is for_kind is_unused is_player limit reaches fields field_of at_target
rows_open = 0
