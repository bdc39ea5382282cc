-- Load, hand, drop, barrier, store and write keep "undamaged".
use mathlib.Core.Path.{◌≡◌, sym, ◌∙◌, refl}
use mathlib.Core.Logic.{inl, inr}
use mathlib.Core.Bool.{true}
use mathlib.Core.List.{List}
use Prim.Native.Nat.{ℕ, suc, ◌+◌, ◌*◌, ◌/◌, ◌≤◌, ◌<◌}
use native.Mathlib.Decide.{ℕ_discrete}
use native.Mathlib.Omega.{arith}
use lib.ListN.{length}
use Rattle.model.specs.Base.{put}
use Rattle.model.specs.Image.{Image, granules, word, is_start, marked, size, links, link, reg, owed, with_regs, set_word, dirty_card, set_reg, set_owed, fields_open}
use Rattle.model.proofs.Laws.{nth_put_same, nth_put_other}
use Rattle.theory.specs.Cover.{on_dirty, owes_by, is_coming, is_owed}
use Rattle.theory.specs.Lines.{NilOr, Start, Lines, Idle, Undamaged}
use Rattle.theory.proofs.lines.Covering.{dirty_same, same_coming}
use Rattle.theory.proofs.heap.Facts.{laid_of, reg_value}
use Rattle.theory.proofs.lines.Lines.{put_regs, put_players}
use Rattle.theory.proofs.steps.Reaching.{dirty_coming, dirty_lines, covered_on}
use Rattle.theory.proofs.lines.Sections.{owed_set, reg-ok}
use Rattle.theory.proofs.steps.Written.{links_written, link_written, word_lines}

-- ---- a register of a player who owes nothing

pub reg_keeps : (m : Image) → Undamaged m → (p r v : ℕ) → p < 16 → r < 16 → owed m p ≡ 0 → NilOr (Start m) v → Undamaged (set_reg m p r v)
unfolding set_reg with_regs granules marked links link word owed reg
reg_keeps m u p r v hp hr ow ok = record {
  sound = record { lines = put_regs u.sound.lines _ (reg-ok u.sound.lines.regs_ok (16 * p + r) v (omega arith) ok); idle = u.sound.idle };
  cover = λ g i hg k l. covered_on m (set_reg m p r v) g i refl (λ a q. q) (λ c. is_coming (same_coming m (set_reg m p r v) refl refl refl g i c))
      (λ q s hq hs o e.
      let ne : q ≡ p → ⊥ = λ x. omega (arith, rw x at o, ow) in
      is_owed (owes_by q s hq hs o (nth_put_other m.regs (16 * p + r) (16 * q + s) v (omega arith) ∙ e)))
      (u.cover g i hg k l);
}

-- ---- the barrier

still_idle : {ms ps ts us : List ℕ} → Idle ms ps ts us → (p v : ℕ) → Idle ms ps ts (put us (2 * p) v)
still_idle {us = us} z p v = record { no_marks = z.no_marks; no_packets = z.no_packets; no_tracers = z.no_tracers; no_scanned = λ q. nth_put_other us (2 * p) (2 * q + 1) v (omega arith) ∙ z.no_scanned q }

owed_lines : {m : Image} → Lines m → (p v : ℕ) → p < 16 → v ≤ m.k → Lines (set_owed m p v)
unfolding set_owed
owed_lines o p v hp hv = put_players o _ (owed_set o.players_ok p v hp hv)

-- the owed card is dirtied, and nothing is owed
pub barrier_keeps : (m : Image) → Undamaged m → (p c : ℕ) → p < 16 → owed m p ≡ suc c → Undamaged (set_owed (dirty_card m c) p 0)
unfolding fields_open
barrier_keeps m u p c hp e =
    let m₁ : Image = dirty_card m c in
    let m₂ : Image = set_owed m₁ p 0 in
    let hc : c < m.k = omega (arith, e, u.sound.lines.players_ok.owed_ok p) in
    let hl : c < length m.cards = rw u.sound.lines.cards_ok.sized hc in
    record {
      sound = record { lines = owed_lines (dirty_lines u.sound.lines c hc) p 0 hp (omega arith); idle = λ z. still_idle (u.sound.idle z) p 0 };
      cover = λ g i hg k l. covered_on m m₂ g i refl (λ a q. q) (λ d. is_coming (same_coming m₁ m₂ refl refl refl g i (dirty_coming m c g i hl d)))
          (λ q r hq hr ow x. elim (ℕ_discrete q p) [
            | yes s ↦ let eq : g / 64 ≡ c = omega (arith, rw s at ow, e) in is_coming (on_dirty (rw eq (dirty_same m c hl)))
            | no s ↦ is_owed (owes_by q r hq hr (rw (nth_put_other m.players (2 * p) (2 * q) 0 (omega arith)) ow) x)
          ])
          (u.cover g i hg k l);
    }

-- ---- store: link b of g gets register c of player p, who owes nothing

pub is-start : (m : Image) (g : ℕ) → Start m g → is_start m g ≡ true
unfolding is_start
is-start m g s = s.1

pub store_keeps : (m : Image) → Undamaged m → (p g b c : ℕ) → p < 16 → c < 16 → owed m p ≡ 0 → Start m g → b < links m g → Undamaged (set_owed (set_word m g (2 + b) (reg m p c)) p (suc (g / 64)))
unfolding fields_open
store_keeps m u p g b c hp hc ow sg hb =
    let o = u.sound.lines in
    let m₁ : Image = set_owed (set_word m g (2 + b) (reg m p c)) p (suc (g / 64)) in
    let hx : 2 + b < 4 * size m g = omega (arith, (laid_of o).inside g sg.1) in
    let card : suc (g / 64) ≤ m.k = omega (arith, sg.0) in
    record {
      sound = record {
        lines = owed_lines (word_lines o g (2 + b) (reg m p c) sg.1 (omega arith) hx (λ _. reg_value o p c)) p (suc (g / 64)) hp card;
        idle = λ z. still_idle (u.sound.idle z) p (suc (g / 64));
      };
      cover = λ h i hh k l.
          let sh = (o.marks_ok.on_starts h k).1 in
          let li : i < links m h = rw (links_written o g (2 + b) (reg m p c) sg.1 (omega arith) hx h sh) at l in
          elim (link_written o g (2 + b) (reg m p c) sg.1 (omega arith) hx h i sh li) [
            | inl ((e, e'), w) ↦ is_owed (owes_by p c hp hc (rw e (nth_put_same m.players (2 * p) (suc (g / 64)) (omega (arith, o.players_ok.sized)))) (sym w))
            | inr (n, w) ↦ covered_on m m₁ h i w (λ a q. q) (λ d. is_coming (same_coming m m₁ refl refl refl h i d))
                (λ q r hq hr x e.
                let ne : q ≡ p → ⊥ = λ s. omega (arith, rw s at x, ow) in
                is_owed (owes_by q r hq hr (nth_put_other m.players (2 * p) (2 * q) (suc (g / 64)) (omega arith) ∙ x) (e ∙ sym w)))
                (u.cover h i hh k li)
          ];
    }

-- ---- write: a level word of g

pub write_keeps : (m : Image) → Undamaged m → (g b v : ℕ) → Start m g → 2 + links m g + b < 4 * size m g → Undamaged (set_word m g (2 + links m g + b) v)
unfolding fields_open
write_keeps m u g b v sg hb =
    let o = u.sound.lines in
    let x : ℕ = 2 + links m g + b in
    let m₁ : Image = set_word m g x v in
    record {
      sound = record { lines = word_lines o g x v sg.1 (omega arith) hb (λ h. absurd (omega arith)); idle = u.sound.idle };
      cover = λ h i hh k l.
          let sh = (o.marks_ok.on_starts h k).1 in
          let li : i < links m h = rw (links_written o g x v sg.1 (omega arith) hb h sh) at l in
          elim (link_written o g x v sg.1 (omega arith) hb h i sh li) [
            | inl ((e, e'), w) ↦ absurd (omega (arith, rw e at li))
            | inr (n, w) ↦ covered_on m m₁ h i w (λ a q. q) (λ d. is_coming (same_coming m m₁ refl refl refl h i d))
                (λ q r hq hr y e. is_owed (owes_by q r hq hr y (e ∙ sym w))) (u.cover h i hh k li)
          ];
    }
