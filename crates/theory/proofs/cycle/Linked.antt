-- Successive events: each is a step of an image in order; the parts b, c and d of the claim hold of them.
use mathlib.Core.Path.{◌≡◌, refl, sym, ap, subst, ◌∙◌}
use mathlib.Core.Logic.{⊎_elim}
use mathlib.Core.Bool.{true, false, cond}
use mathlib.Core.List.{List, [], ◌∷◌, ◌++◌, Memᴰ}
use Prim.Native.Nat.{ℕ}
use lib.Dec.{eqb}
use Rattle.model.specs.Image.{Image, is_start, running}
use Rattle.model.specs.Records.{Step, begin, finish}
use Rattle.model.specs.Mutate.{Placing}
use Rattle.model.specs.Steps.{Event, accept, finish_done, act, step, run, after}
use Rattle.model.specs.Claim.{Chain, Is, Accepted, any_field, Finishes}
use Rattle.model.proofs.Laws.{bool_cases}
use Rattle.theory.specs.Cycle.{Live, Since}
use Rattle.theory.specs.Events.{Successive, l_nil, l_cons, Parted, Steady, Fine}
use Rattle.theory.proofs.cycle.Live.{kept_live}
use Rattle.theory.proofs.cycle.LiveSteps.{step_live}
use Rattle.theory.proofs.finish.Finishes.{begin_number, finish_number, begin_live, finishes}
use Rattle.theory.proofs.steps.Steps.{accepted_image}

-- ---- linked events

linked_parted : (rule : Placing) (m : Image) (es fs : List Event) (n : Image) → Successive rule m (es ++ fs) n → Parted rule m es fs n
linked_parted rule m [] fs n p = record { middle = m; first_part = l_nil; second_part = p }
linked_parted rule m (e ∷ es) fs n (l_cons _ g d p) = let r = linked_parted rule e.done.image es fs n p in record { middle = r.middle; first_part = l_cons e g d r.first_part; second_part = r.second_part }

-- the events of a list of steps are linked
pub run_linked : (rule : Placing) (m : Image) (ss : List Step) → Successive rule m (run rule m ss) (after m (run rule m ss))
unfolding run after
run_linked rule m [] = l_nil
run_linked rule m (s ∷ ss) = l_cons _ refl refl (run_linked rule (step rule m s).image ss)

-- ---- from facts of one step to lists of events

module _ (rule : Placing) (Ok : Image → Type 0) (st : Steady rule Ok) where
  pub done_ok : (e : Event) → Fine rule Ok e → Ok e.done.image
  done_ok e k = subst (λ d. Ok d.image) (sym k.is_step) (st.step_ok e.got e.request k.got_ok)

  pub linked_ok : {m n : Image} {es : List Event} → Successive rule m es n → Ok m → Ok n
  linked_ok l_nil o = o
  linked_ok (l_cons e g d p) o = linked_ok p (done_ok e (record { got_ok = subst Ok (sym g) o; is_step = d }))

  pub linked_fine : {m n : Image} {es : List Event} → Successive rule m es n → Ok m → (e : Event) → Memᴰ e es → Fine rule Ok e
  linked_fine (l_nil {m = m}) o e x9 = elim x9 [ ]
  linked_fine (l_cons x g d p) o e (Memᴰ.head q) = subst (Fine rule Ok) (sym q) (record { got_ok = subst Ok (sym g) o; is_step = d })
  linked_fine (l_cons x g d p) o e (Memᴰ.tail k) = linked_fine p (done_ok x (record { got_ok = subst Ok (sym g) o; is_step = d })) e k

  -- an event of the list: it is fine, and what follows it is linked, in two parts
  pub linked_from : {m n : Image} {es : List Event} → Successive rule m es n → Ok m → (b : Event) (before mid behind : List Event) → es ≡ before ++ (b ∷ (mid ++ behind))
      → Fine rule Ok b × Parted rule b.done.image mid behind n
  linked_from {m} {n} p o b before mid behind q =
      let r = linked_parted rule m before (b ∷ (mid ++ behind)) n (subst (λ l. Successive rule m l n) q p) in
      at r.second_part (linked_ok r.first_part o)
    where
      at : {x : Image} → Successive rule x (b ∷ (mid ++ behind)) n → Ok x → Fine rule Ok b × Parted rule b.done.image mid behind n
      at (l_cons _ g d r) ox = (record { got_ok = subst Ok (sym g) ox; is_step = d }, linked_parted rule b.done.image mid behind n r)

  -- what is live stays so while no finish is accepted
  linked_live : {m n : Image} {es : List Event} → Successive rule m es n → Ok m → ((e : Event) → Memᴰ e es → Accepted finish e → ⊥) → (S : ℕ → Type 0) → Live S m → Live S n
  linked_live l_nil o nf S v = v
  linked_live (l_cons e g d p) o nf S v =
      let k : Fine rule Ok e = record { got_ok = subst Ok (sym g) o; is_step = d } in
      linked_live p (done_ok e k) (λ x q. nf x (Memᴰ.tail q)) S
      (subst (λ r. Live S r.image) (sym d)
      (step_live rule e.got e.request (st.facts e.got k.got_ok) (st.new_leaves e.got e.request k.got_ok)
      (λ i z. nf e (Memᴰ.head refl) (record { is_kind = i; no_number = ap (λ r. r.number) d ∙ z })) S (subst (Live S) (sym g) v)))

  -- an accepted finish
  finish_event : (e : Event) → Fine rule Ok e → Accepted finish e → Finishes e.got e.done.image
  unfolding act accept finish_done
  finish_event e k a =
      let z : (step rule e.got e.request).number ≡ 0 = sym (ap (λ r. r.number) k.is_step) ∙ a.no_number in
      subst (Finishes e.got) (sym (ap (λ r. r.image) k.is_step ∙ accepted_image rule e.got e.request a.is_kind z))
      (finishes e.got (st.facts e.got k.got_ok) (st.covers e.got k.got_ok) (st.swept e.got k.got_ok))

  -- ---- the parts of the claim, for linked events

  module _ {m n : Image} {es : List Event} (p : Successive rule m es n) (o : Ok m) where
    pub begin_numbers : (e : Event) → Memᴰ e es → Is begin e → e.done.number ≡ cond (any_field e.request) 3 (cond (eqb (running e.got) 1) 10 0)
    begin_numbers e k i = ap (λ r. r.number) (linked_fine p o e k).is_step ∙ begin_number rule e.got e.request i

    pub finish_numbers : (e : Event) → Memᴰ e es → Is finish e → e.done.number ≡ cond (any_field e.request) 3 (cond (eqb (running e.got) 0) 10 0)
    finish_numbers e k i = ap (λ r. r.number) (linked_fine p o e k).is_step ∙ finish_number rule e.got e.request i

    pub all_finish : (e : Event) → Memᴰ e es → Accepted finish e → Finishes e.got e.done.image
    all_finish e k a = finish_event e (linked_fine p o e k) a

    pub unreached_freed : (b f : Event) (before mid behind : List Event) → es ≡ before ++ (b ∷ (mid ++ (f ∷ behind)))
        → Accepted begin b → ((e : Event) → Memᴰ e mid → Accepted finish e → ⊥) → Accepted finish f
        → (g : ℕ) → is_start b.got g ≡ true → (Chain b.got g → ⊥)
        → (is_start f.got g ≡ true) × (is_start f.done.image g ≡ false)
    unreached_freed b f before mid behind q ab nf af g sg un =
        let (k, t) = linked_from p o b before mid (f ∷ behind) q in
        let z : (step rule b.got b.request).number ≡ 0 = sym (ap (λ r. r.number) k.is_step) ∙ ab.no_number in
        let v = subst (λ r. Live (Since b.got) r.image) (sym k.is_step) (begin_live rule b.got b.request (st.facts b.got k.got_ok) ab.is_kind z) in
        at-finish t.second_part (linked_ok t.first_part (done_ok b k)) (linked_live t.first_part (done_ok b k) nf (Since b.got) v)
      where
        Freed : Type 0
        Freed = (is_start f.got g ≡ true) × (is_start f.done.image g ≡ false)

        -- what is live at the finish and an object of the begin's image is reached there
        reached : Since b.got g → ⊥
        reached s = un (unfold Since in s sg)

        at-finish : {x y : Image} → Successive rule x (f ∷ behind) y → Ok x → Live (Since b.got) x → Freed
        at-finish (l_cons _ h d r) ox w =
            let v : Live (Since b.got) f.got = subst (Live (Since b.got)) (sym h) w in
            let k : Fine rule Ok f = record { got_ok = subst Ok (sym h) ox; is_step = d } in
            let live = kept_live (Since b.got) f.got (st.facts f.got k.got_ok).proper v g in (
              ⊎_elim (λ t. t) (λ t. absurd (reached (v.live_free g t))) (bool_cases (is_start f.got g)),
              ⊎_elim (λ t. absurd (reached (live ((finish_event f k af).only_kept g t).1))) (λ t. t) (bool_cases (is_start f.done.image g)),
            )
