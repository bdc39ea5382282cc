-- A packet read from the image and written back: what push and pop by value do to the image.
use mathlib.Core.Path.{◌≡◌, refl, sym, ap, ◌∙◌}
use mathlib.Core.List.{List, [], ◌∷◌, ◌++◌}
use Prim.Native.Nat.{ℕ, suc, ◌+◌, ◌*◌, ◌-◌, ◌<◌}
use native.Mathlib.Nat.{add-zero}
use native.Mathlib.Numerals.{add-one, add-two}
use native.Mathlib.Omega.{arith}
use lib.ListN.{length, set, take, drop, get_or}
use lib.Seq.{drop-cons, drop-drop, take-take, get_or-take, get_or-drop}
use borrow.Rule.Slice.PartMut.{mid_of, put_mid}
use Rattle.model.specs.Base.{nth, put}
use Rattle.model.specs.Image.{Image, place, lengths, split, image_of, image, packets_at, count, entry, with_packets}
use Rattle.model.specs.Collect.{append, pop}
use Rattle.image_laws.specs.Sized.{Sized}
use Rattle.image_laws.proofs.Split.{split_part}
use Rattle.image_laws.proofs.Lengths.{packets_words}
use Rattle.image_laws.proofs.Clearing.{mid_section}
use Rattle.tracers_laws.specs.Packet.{Packet, Tidy, LastOff, packet_at, with_entry, without_last, words_of, with_packet}
use Rattle.tracers_laws.proofs.Writes.{writes, write}

-- ---- read and written

-- packet p has its words from word a on
module _ (w k : ℕ) (ws : List ℕ) (z : Sized w k ws) (p : ℕ) (h : p < 32) (a : ℕ) (at_place : place (lengths w k) packets_at + 32 * p ≡ a) where
  pub packet_read : (n : ℕ) (e : List ℕ) → n ≡ nth (image_of w k ws).packets (32 * p) → e ≡ take 30 (mid_of (a + 2) (a + 2 + 30 - (a + 2)) ws) → ◌≡◌ {A = Packet} (record { count = n; entries = e }) (packet_at (image_of w k ws) p)
  unfolding packet_at count image_of image split
  packet_read n e en ee =
      let q : a + 2 + 30 - (a + 2) ≡ 30 = omega arith in
      let r : place (lengths w k) packets_at + (32 * p + 2) ≡ a + 2 = omega arith in
      let b : e ≡ take 30 (drop (32 * p + 2) (image_of w k ws).packets) =
      ee ∙ rw (q, take-take 30 30 (drop (a + 2) ws) (omega arith), ← r) (sym (split_part (lengths w k) ws packets_at (32 * p + 2) 30 (omega arith))) in
      λ t. record { count = en t; entries = b t }

  pub packet_written : (q : Packet) → length q.entries ≡ 30 → (v : List ℕ) → v ≡ words_of q → image_of w k (put_mid a (a + 32 - a) ws v) ≡ with_packet (image_of w k ws) p q
  unfolding with_packet words_of image_of image split with_packets
  packet_written q l v e =
      let lv : length v ≡ 32 = ap length e ∙ omega arith in
      mid_section w k ws packets_at (32 * p) 32 a (a + 32) (omega arith) at_place refl (omega (arith, z.long)) v lv
      ∙ ap (with_packets (image_of w k ws)) (rw (drop-drop 32 (32 * p) (image_of w k ws).packets, e))

-- ---- what push and pop do

-- an entry and the count written
one_more : (l e : List ℕ) (o i v c d : ℕ) → mid_of o 32 l ≡ c ∷ 0 ∷ e → i < 30 → take o l ++ ((d ∷ 0 ∷ set e i v) ++ drop (o + 32) l) ≡ put (put l (o + 2 + i) v) o d
unfolding put
one_more l e o i v c d m h =
    let j : o + suc (suc i) ≡ o + 2 + i = omega arith in
    rw (← (drop-drop 32 o l)) (rw (m, j, add-zero o) at (writes o 32 l (write (suc (suc i)) v ∷ write 0 d ∷ []) (omega arith, (omega arith, tt))))

module _ (m : Image) (p : ℕ) (h : p < 32) (l : length m.packets ≡ 1024) (t : Tidy m p) where
  its_words : mid_of (32 * p) 32 m.packets ≡ count m p ∷ 0 ∷ take 30 (drop (32 * p + 2) m.packets)
  unfolding count nth
  its_words =
      let g : get_or m.packets (suc (32 * p)) 0 ≡ 0 = rw add-one at t.gap in
      rw (drop-cons m.packets (32 * p) 0 (omega arith), drop-cons m.packets (suc (32 * p)) 0 (omega arith), g, add-two)

  -- "appended to the output packet"
  pub entry_on : (g : ℕ) → count m p < 30 → with_packet m p (with_entry (packet_at m p) g) ≡ append m p g
  unfolding with_packet words_of with_entry packet_at append put
  entry_on g c = ap (with_packets m) (one_more m.packets _ (32 * p) (count m p) g (count m p) (count m p + 1) its_words c)

  -- "the last comes off"
  pub last_off : 0 < count m p → with_packet m p (without_last (packet_at m p)) ≡ pop m p
  unfolding with_packet words_of without_last packet_at pop put
  last_off c =
      let e : 32 * p + 2 + (count m p - 1) ≡ 32 * p + 1 + count m p = omega arith in
      ap (with_packets m) (rw e at (one_more m.packets _ (32 * p) (count m p - 1) 0 (count m p) (count m p - 1) its_words (omega (arith, t.few))))

  pub last_entry : 0 < count m p → nth (packet_at m p).entries (count m p - 1) ≡ entry m p (count m p - 1)
  unfolding packet_at entry nth
  last_entry c = get_or-take 30 (drop (32 * p + 2) m.packets) (count m p - 1) 0 (omega (arith, t.few)) ∙ get_or-drop (32 * p + 2) m.packets (count m p - 1) 0

-- ---- the same as the code has it

pub packet_count : (m : Image) (p : ℕ) (q : Packet) → q ≡ packet_at m p → q.count ≡ count m p
unfolding packet_at
packet_count m p q e = ap (λ (x : Packet). x.count) e

pub pushed_count : (q r : Packet) (v : ℕ) → r ≡ with_entry q v → r.count ≡ q.count + 1
unfolding with_entry
pushed_count q r v e = ap (λ (x : Packet). x.count) e

pub popped_count : (q r : Packet) → r ≡ without_last q → r.count ≡ q.count - 1
unfolding without_last
popped_count q r e = ap (λ (x : Packet). x.count) e

module _ (w k : ℕ) (ws : List ℕ) (z : Sized w k ws) (p : ℕ) (h : p < 32) (t : Tidy (image_of w k ws) p) (q r : Packet) (e : q ≡ packet_at (image_of w k ws) p) (n : Image) (f : n ≡ with_packet (image_of w k ws) p r) where
  pub append_done : (g : ℕ) → r ≡ with_entry q g → count (image_of w k ws) p < 30 → n ≡ append (image_of w k ws) p g
  append_done g s c = f ∙ rw (s, e) (entry_on (image_of w k ws) p h (packets_words z) t g c)

  pub pop_done : (g : ℕ) → g ≡ nth q.entries (q.count - 1) → r ≡ without_last q → 0 < count (image_of w k ws) p → LastOff (image_of w k ws) p g n
  pop_done g l s c = record {
    is_last = l ∙ rw (packet_count (image_of w k ws) p q e, e) (last_entry (image_of w k ws) p h (packets_words z) t c);
    is_left = f ∙ rw (s, e) (last_off (image_of w k ws) p h (packets_words z) t c);
  }
