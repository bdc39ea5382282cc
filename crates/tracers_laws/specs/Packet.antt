-- Work packets by value, as the image has them.
use Rattle.std.specs.Prelude.{◌≡◌, List, ◌∷◌, ◌++◌, ℕ, ◌+◌, ◌*◌, ◌-◌, ◌≤◌, take, drop}
use Rattle.model.specs.Base.{nth, put}
use Rattle.model.specs.Image.{Image, count, entry, with_packets}
use Rattle.model.specs.Collect.{pop}

pub record Packet : Type 0 where
  pub count : ℕ
  pub entries : List ℕ

-- packet p of an image
unfoldable pub packet_at : Image → ℕ → Packet
packet_at m p = record { count = count m p; entries = take 30 (drop (32 * p + 2) m.packets) }

-- "appended": one entry more
unfoldable pub with_entry : Packet → ℕ → Packet
with_entry q v = record { count = q.count + 1; entries = put q.entries q.count v }

-- "the last comes off", and leaves 0
unfoldable pub without_last : Packet → Packet
without_last q = record { count = q.count - 1; entries = put q.entries (q.count - 1) 0 }

-- "a count and 30 entries, with one zero word between"
unfoldable pub words_of : Packet → List ℕ
words_of q = q.count ∷ 0 ∷ q.entries

-- the image with these words as packet p
unfoldable pub with_packet : Image → ℕ → Packet → Image
with_packet m p q = with_packets m (take (32 * p) m.packets ++ (words_of q ++ drop (32 * p + 32) m.packets))

-- the word between is zero, and the count at most 30
pub record Tidy (m : Image) (p : ℕ) : Type 0 where
  pub gap : nth m.packets (32 * p + 1) ≡ 0
  pub few : count m p ≤ 30

-- g came off packet p as its last entry, and n is left
pub record LastOff (m : Image) (p g : ℕ) (n : Image) : Type 0 where
  pub is_last : g ≡ entry m p (count m p - 1)
  pub is_left : n ≡ pop m p
