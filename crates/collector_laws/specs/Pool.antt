-- The packets that tracers hold, as bits, and the choice of a packet of the pool as a walk makes it.
use Rattle.std.specs.Prelude.{◌≡◌, Bool, true, false, ◌&&◌, [], ◌∷◌, ℕ, zero, suc, ◌-◌, ◌<◌, leb, eqb}
use Rattle.model.specs.Base.{with_bit, some}
use Rattle.model.specs.Image.{Image, count, input, output}
use Rattle.theory.specs.Fields.{bound}

-- a packet by its number + 1, as the words of a tracer name it (0: none), and its number of entries
pub record Choice : Type 0 where
  pub packet : ℕ
  pub entries : ℕ

-- packets as bits, with the bit of a packet given by its number + 1; 0 is no packet
unfoldable pub held_with : ℕ → ℕ → ℕ
held_with s zero = s
held_with s (suc p) = with_bit s p

-- the packets that the first n tracers hold
unfoldable pub held_set : Image → ℕ → ℕ
held_set m zero = 0
held_set m (suc t) = held_with (held_with (held_set m t) (input m t)) (output m t)

-- packet p with n entries, or the choice so far
unfoldable pub chosen_by : Bool → ℕ → ℕ → Choice → Choice
chosen_by true p n c = record { packet = suc p; entries = n }
chosen_by false p n c = c

-- the choice among the numbers below n that are free: `less` orders them by `key`, and none is chosen that is not less than `bound`
unfoldable pub choice : (ℕ → ℕ → Bool) → (ℕ → ℕ) → (ℕ → Bool) → ℕ → ℕ → Choice
choice less key free bound zero = record { packet = 0; entries = bound }
choice less key free bound (suc n) =
    let c : Choice = choice less key free bound n in
    chosen_by (free n && less (key n) c.entries) n (key n) c

-- a packet, given by its number + 1, is absent or full
unfoldable pub lacks_space : Image → ℕ → Bool
lacks_space m x = some (eqb x 0 ∷ leb 30 (count m (x - 1)) ∷ [])

-- an output packet of tracer t has space
pub record Spare (m : Image) (t : ℕ) : Type 0 where
  pub space : (p : ℕ) → output m t ≡ suc p → (p < 32) × (count m p < 30)
