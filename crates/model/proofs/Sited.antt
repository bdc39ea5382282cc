-- What the lines of `sound` say of registers, links, marks and packets, on words whose length fits.
use mathlib.Core.Path.{◌≡◌, ap, subst, ◌∙◌}
use mathlib.Core.Bool.{true}
use mathlib.Core.List.{List, map}
use Prim.Native.Nat.{ℕ, ◌*◌, ◌≤◌, ◌<◌}
use native.Mathlib.Nat.{add-zero}
use native.Mathlib.Omega.{arith}
use lib.ListN.{length, get_or}
use borrow.Author.Tests.{ne_eqb, leb-true, ltb-true}
use Rattle.model.specs.Base.{nth}
use Rattle.model.specs.Image.{Image, granules, is_start, marked, links, link, count, starts_at, regs_at, packets_at, lengths, sections, fits, parts}
use Rattle.model.specs.Undamaged.{nil_or_start, links_ok, reg_ok, mark_ok, packet_ok, sound}
use Rattle.model.proofs.Laws.{every_use, all_use, imp_use, either_no}
use Rattle.model.proofs.Bits.{bit_within}
use Rattle.model.proofs.Entries.{nth_take, nth_drop, each_piece_use}
use Rattle.model.proofs.Words.{parts_fit}

-- ---- what the lines give

pub record Sited (m : Image) : Type 0 where
  pub regs_length : length m.regs ≡ 256
  pub packets_length : length m.packets ≡ 1024
  pub counts : (p : ℕ) → p < 32 → count m p ≤ 30
  pub reg_in : (i : ℕ) → i < 256 → nil_or_start m (nth m.regs i) ≡ true
  pub link_in : (g i : ℕ) → g < granules m → is_start m g ≡ true → i < links m g → nil_or_start m (link m g i) ≡ true
  pub start_in : (g : ℕ) → is_start m g ≡ true → g < granules m
  pub mark_start : (g : ℕ) → g < granules m → marked m g ≡ true → is_start m g ≡ true

-- what is nil or a start, and not nil
pub start_of : (m : Image) (a : ℕ) → nil_or_start m a ≡ true → (a ≡ 0 → ⊥) → (a < granules m) × (is_start m a ≡ true)
unfolding nil_or_start
start_of m a e nz = let r = either_no _ _ _ (ne_eqb a 0 nz) e in (ltb-true _ _ (every_use _ r 0), every_use _ r 1)

-- registers, links and marks of a sound image are where they belong
pub sited : (w : ℕ) (ws : List ℕ) → fits w (length ws) ≡ true → sound (parts w ws) ≡ true → Sited (parts w ws)
unfolding sound links_ok reg_ok mark_ok packet_ok count granules is_start sections
sited w ws f e =
    let m : Image = parts w ws in
    let long : (i : ℕ) → get_or (map length (sections m)) i 0 ≡ get_or (lengths m.width m.k) i 0 = λ i. ap (λ l. get_or l i 0) (parts_fit w ws f).section_lengths in
    record {
      regs_length = long regs_at;
      packets_length = long packets_at;
      counts = λ p h. subst (λ x. x ≤ 30) (nth_take 32 _ 0 (omega arith) ∙ nth_drop (32 * p) m.packets 0 ∙ ap (nth m.packets) (add-zero (32 * p))) (leb-true _ _ (every_use _ (each_piece_use 32 32 (packet_ok m) m.packets (every_use _ e 8) p h) 0));
      reg_in = all_use 256 _ (every_use _ e 3);
      link_in = λ g i h s l. all_use (links m g) _ (imp_use _ _ (all_use (granules m) _ (every_use _ e 2) g h) s) i l;
      start_in = λ g h. bit_within m.width (64 * m.k) m.starts g (long starts_at) h;
      mark_start = λ g h k. imp_use _ _ (all_use (granules m) _ (every_use _ e 7) g h) k;
    }
