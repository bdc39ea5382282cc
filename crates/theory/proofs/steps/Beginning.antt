-- Scan and begin keep the lines and Cover.
use mathlib.Core.Path.{◌≡◌, refl, sym, ◌∙◌}
use mathlib.Core.Logic.{inl}
use mathlib.Core.List.{List}
use Prim.Native.Nat.{ℕ, suc, ◌+◌, ◌*◌, ◌≤◌, ◌<◌}
use native.Mathlib.Omega.{arith}
use lib.ListN.{length, take, drop, length-replicate}
use Rattle.model.specs.Base.{nth, put, zeros}
use Rattle.model.specs.Image.{Image, marked, with_cards, with_general, set_scanned, fields_open}
use Rattle.model.specs.Collect.{reach_all, scan_player, begin_cycle}
use Rattle.model.proofs.Laws.{false≢, nth_put_same, nth_put_other, length_put, nth_replicate}
use Rattle.model.proofs.Entries.{nth_drop}
use Rattle.model.proofs.Bits.{no_bit}
use Rattle.theory.specs.Cover.{Cover, owes_by, is_coming, is_owed}
use Rattle.theory.specs.Lines.{NilOr, GeneralOk, Start, Lines, Idle, Undamaged, none}
use Rattle.theory.proofs.lines.Covering.{same_coming}
use Rattle.theory.proofs.lines.Lines.{put_players, put_general}
use Rattle.theory.proofs.steps.Reaching.{each_take, StepStays, reach_all_does, covered_on}
use Rattle.theory.proofs.lines.Sections.{scanned_set}

-- ---- scan

-- a player's registers are nil or starts
pub scan_values : (m : Image) → Lines m → (p i : ℕ) → NilOr (Start m) (nth (take 16 (drop (16 * p) m.regs)) i)
scan_values m o p = each_take (NilOr (Start m)) (inl refl) 16 (drop (16 * p) m.regs) (λ i. rw (nth_drop (16 * p) m.regs i) (o.regs_ok.values (16 * p + i)))

pub scan_does : (m : Image) → Lines m → Cover m → (t p : ℕ) → t < 8 → p < 16 → StepStays m (scan_player m t p)
unfolding scan_player fields_open
scan_does m o cov t p ht hp =
    let n : Image = reach_all m t (take 16 (drop (16 * p) m.regs)) in
    let r : StepStays m n = reach_all_does m o cov t ht (take 16 (drop (16 * p) m.regs)) (scan_values m o p) in
    record {
      lines = put_players r.lines _ (scanned_set r.lines.players_ok p hp);
      cover = λ g i hg k l. covered_on n (set_scanned n p) g i refl (λ a q. q) (λ d. is_coming (same_coming n (set_scanned n p) refl refl refl g i d))
          (λ q r hq hr ow e. is_owed (owes_by q r hq hr (nth_put_other n.players (2 * p + 1) (2 * q) 1 (omega arith) ∙ ow) e)) (r.cover g i hg k l);
      frame_same = r.frame_same;
    }

-- ---- begin: nothing runs, so nothing is marked, held or entered

pub zeros_nth : (l : List ℕ) (i : ℕ) → nth (zeros l) i ≡ 0
unfolding zeros
zeros_nth l i = nth_replicate (length l) i

pub length_zeros : (l : List ℕ) → length (zeros l) ≡ length l
unfolding zeros
length_zeros l = length-replicate (length l) 0

begin_cards : {m : Image} → Lines m → Idle m.marks m.packets m.tracers m.players → Lines (with_cards m (zeros m.cards))
unfolding with_cards
begin_cards {m} o z = record {
  heap_ok = o.heap_ok;
  regs_ok = o.regs_ok;
  marks_ok = o.marks_ok;
  packets_ok = o.packets_ok;
  players_ok = o.players_ok;
  general-ok = o.general-ok;
  cards_ok = record { sized = length_zeros m.cards ∙ o.cards_ok.sized; states = λ c. rw (zeros_nth m.cards c) (omega arith) };
  tracers_ok = record { sized = o.tracers_ok.sized; places = o.tracers_ok.places; hands = o.tracers_ok.hands; spare = o.tracers_ok.spare; hand_cards = record { pair = λ t h. none (z.no_tracers _) (z.no_tracers _) } };
}

-- the running word written
pub running_ok : {gs : List ℕ} → GeneralOk gs → (v : ℕ) → v ≤ 1 → GeneralOk (put gs 0 v)
running_ok {gs} o v h = record {
  sized = simp length_put o.sized;
  runs = rw (nth_put_same gs 0 v (omega (arith, o.sized))) h;
  rest = λ i. nth_put_other gs 0 (suc (suc i)) v (omega arith) ∙ o.rest i;
}

pub begin_does : (m : Image) → Lines m → Idle m.marks m.packets m.tracers m.players → Undamaged (begin_cycle m)
unfolding begin_cycle with_cards with_general marked
begin_does m o z = record {
  sound = record {
    lines = put_general (begin_cards o z) _ (running_ok o.general-ok 1 (omega arith)) (nth_put_other m.general 0 1 1 (omega arith));
    idle = λ e. absurd (omega (arith, e, nth_put_same m.general 0 1 (omega (arith, o.general-ok.sized))));
  };
  cover = λ g i hg k l. false≢ (sym (no_bit m.width m.marks z.no_marks g) ∙ k);
}
