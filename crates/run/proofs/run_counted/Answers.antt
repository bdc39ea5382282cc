use native.Mathlib.Omega.{arith}
use mathlib.Core.Path.{◌≡◌, refl, sym, ap, ◌∙◌}
use Prim.Native.Nat.{ℕ, ◌*◌, ◌-◌, ◌/◌}
use mathlib.Core.List.{List}
use lib.ListN.{length, take, drop}
use Rattle.model.specs.Records.{Step, record_bytes, step_of}
use Rattle.image.proofs.Words.{words_length}
use Rattle.show_store_laws.specs.Run.{record_at}
use Rattle.show_store_laws.proofs.Run.{ran_none, ran_more, ran_end}
use Rattle.run.proofs.run_counted.Goals as goal

-- the record that the reader is at
is_record : (w i n at : ℕ) (bytes l : List ℕ) (s : Step)
    → n ≡ record_bytes w → l ≡ bytes → at ≡ n * i → s ≡ step_of w (take (record_bytes w) (drop at l)) → s ≡ record_at w bytes i
unfolding record_at
is_record w i n at bytes l s q b p e = e ∙ rw (p, b, q) refl

-- all records are left to a reader at the first
all_left : (w n at left : ℕ) (bytes l : List ℕ) → n ≡ record_bytes w → l ≡ bytes → at ≡ 0 → left ≡ (length l - at) / n → left ≡ length bytes / record_bytes w
all_left w n at left bytes l q b p e =
    let z : length bytes - 0 ≡ length bytes = omega arith in
    e ∙ rw (p, b, q, z) refl

-- the answer space, by the records that are left
answers_for : {a b n r : ℕ} → a ≡ b → b ≡ 2 * r → n ≡ r → a ≡ 2 * n
answers_for f h e = f ∙ h ∙ rw e refl

pub loop-i-init : goal.loop-i-init
loop-i-init g c =
    let N = c.new-reader.ensures in
    record {
      ran = ran_none _ _ _ _ _ _ c.requires.sized c.requires.undamaged _ c.requires.free_value;
      bytes = ap (λ b. b.now) N.0;
      place = omega (arith, N.1);
    }

pub loop-i-preserved : goal.loop-i-preserved
loop-i-preserved g c =
    let L = c.loop-i.invariant in
    let F = c.new-reader.ensures in
    let N = c.next-r.ensures in
    let v = g.met.W.Word.laws.by_value in
    let q = g.met.W.Format.format.length_of_record in
    let n = all_left g.W.Word.BITS _ _ _ c.args.steps.now _ q (ap (λ b. b.now) F.0) F.1 c.left-i-end.ensures in
    let at_record = is_record g.W.Word.BITS c.loop-i.i _ _ c.args.steps.now _ _ q L.bytes L.place N.0.0 in
    record {
      ran =
          ran_more _ _ _ _ _ _ _ _ _ _ _ _ _ L.ran c.loop-i-test.true (answers_for (words_length v c.args.answers.now) c.requires.record_length_len.1 n)
          (c.one-free.ensures.im_after ∙ rw at_record refl) (c.one-free.ensures.answers_after ∙ rw at_record refl) c.one-free.ensures.value
          (words_length v c.one-free.new.im ∙ c.one-free.auto.im ∙ sym (words_length v c.loop-i.im))
          (words_length v c.one-free.new.answers ∙ c.one-free.auto.answers ∙ sym (words_length v c.loop-i.answers));
      bytes = ap (λ b. b.now) N.1.0 ∙ L.bytes;
      place = omega (arith, N.1.1, L.place);
    }

pub returns : goal.returns
returns g c =
    let L = c.loop-i.invariant in
    let F = c.new-reader.ensures in
    let v = g.met.W.Word.laws.by_value in
    let q = g.met.W.Format.format.length_of_record in
    let n = all_left g.W.Word.BITS _ _ _ c.args.steps.now _ q (ap (λ b. b.now) F.0) F.1 c.left-i-end.ensures in
    let e : c.loop-i.i ≡ c.left-i-end.result = omega (arith, L.ran.low, c.loop-i-test.false) in
    let r = ran_end g.W.Word.BITS c.args.k (g.W.Word.words c.args.im.now) c.args.steps.now (g.W.Word.words c.args.answers.now) c.left-i-end.result (g.W.Word.words c.loop-i.im) (g.W.Word.words c.loop-i.answers) c.loop-i.free
    (rw e at L.ran) n (answers_for (words_length v c.args.answers.now) c.requires.record_length_len.1 n) in
    record { im_after = r.0; answers_after = r.1 }
