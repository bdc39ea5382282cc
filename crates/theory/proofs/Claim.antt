-- The claim over whole histories, from facts of one step and the plain store's answers.
use mathlib.Core.Path.{◌≡◌, sym, subst}
use mathlib.Core.List.{List}
use Prim.Native.Nat.{ℕ}
use Rattle.model.specs.Image.{Image, parts, words}
use Rattle.model.specs.Undamaged.{judge_at}
use Rattle.model.specs.Records.{Step}
use Rattle.model.specs.Mutate.{Placing}
use Rattle.model.specs.Steps.{run}
use Rattle.model.specs.Claim.{Lent, Claim}
use Rattle.model.specs.Plain.{SameAnswers}
use Rattle.theory.specs.Events.{Steady, records_run}
use Rattle.theory.proofs.cycle.Linked.{linked_fine, done_ok, begin_numbers, finish_numbers, all_finish, unreached_freed}
use Rattle.theory.proofs.Histories.{history_run, results_run, none_refused, history_linked}

-- where images in order are judged 0, and the plain store answers lists of steps as the real one
pub claim : (rule : Placing) (w : ℕ) (Ok : Image → Type 0) → Steady rule Ok → ((m : Image) → Ok m → judge_at w (words m) ≡ 0)
    → ((m : Image) (ss : List Step) → Ok m → SameAnswers m (run rule m ss)) → (ws : List ℕ) (bs : List Lent) → judge_at w ws ≡ 0 → Ok (parts w ws) → Claim rule w ws bs
claim rule w Ok st judged plain ws bs e o =
    let m : Image = parts w ws in
    let h = history_run rule w ws bs e in
    let linked = history_linked rule w ws bs e in
    record {
      all_undamaged = λ e k. let f = linked_fine rule Ok st linked o e k in (judged e.got f.got_ok, judged e.done.image (done_ok rule Ok st e f));
      none_damaged = λ r k. none_refused w bs r (rw (results_run rule w ws bs e) at k);
      begin_number = begin_numbers rule Ok st linked o;
      finish_number = finish_numbers rule Ok st linked o;
      finishes = all_finish rule Ok st linked o;
      frees_unreached = unreached_freed rule Ok st linked o;
      plain_answers = subst (SameAnswers m) (sym h) (plain m (records_run w bs) o);
    }
