-- A step by its number: each refusal, and what is done where none applies, from the tests in the order of document 01's table.
use mathlib.Core.Path.{◌≡◌}
use mathlib.Core.Bool.{true, false}
use Prim.Native.Nat.{ℕ}
use Rattle.model.specs.Base.{first}
use Rattle.model.specs.Image.{Image}
use Rattle.model.specs.Records.{Step, Kind, kind_of}
use Rattle.model.specs.Mutate.{tightest}
use Rattle.model.specs.Steps.{unnamed, off_desk, owing, no_object, past_end, bad_size, no_room, wrong_phase, nothing_to_do, refusal, act, outcome, step}
use Rattle.request_laws.specs.Answer.{done}
use Rattle.request_laws.specs.Passed.{Passed}

module _ (m : Image) (s : Step) (n : Kind) (e : kind_of s.kind ≡ n) where
  by_number : (x : ℕ) → refusal m s n ≡ x → outcome tightest m s n x ≡ step tightest m s
  unfolding step
  by_number x q = rw (e, q)

  pub number_3 : unnamed s n ≡ true → done 3 0 m ≡ step tightest m s
  unfolding outcome refusal first
  number_3 h = by_number 3 (rw h)

  module _ (named : unnamed s n ≡ false) where
    pub number_4 : off_desk s m.k n ≡ true → done 4 0 m ≡ step tightest m s
    unfolding outcome refusal first
    number_4 h = by_number 4 (rw (named, h))

    pub number_5 : off_desk s m.k n ≡ false → owing m s n ≡ true → done 5 0 m ≡ step tightest m s
    unfolding outcome refusal first
    number_5 on h = by_number 5 (rw (named, on, h))

module _ {m : Image} {s : Step} {n : Kind} (q : Passed m s n) where
  pub number_6 : no_object m s n ≡ true → done 6 0 m ≡ step tightest m s
  unfolding outcome refusal first
  number_6 h = by_number m s n q.is_kind 6 (rw (q.named, q.on_desk, q.none_owed, h))

  module _ (object : no_object m s n ≡ false) where
    pub number_7 : past_end m s n ≡ true → done 7 0 m ≡ step tightest m s
    unfolding outcome refusal first
    number_7 h = by_number m s n q.is_kind 7 (rw (q.named, q.on_desk, q.none_owed, object, h))

    module _ (inside : past_end m s n ≡ false) where
      pub number_8 : bad_size s n ≡ true → done 8 0 m ≡ step tightest m s
      unfolding outcome refusal first
      number_8 h = by_number m s n q.is_kind 8 (rw (q.named, q.on_desk, q.none_owed, object, inside, h))

      module _ (sized : bad_size s n ≡ false) where
        pub number_9 : no_room m s n ≡ true → done 9 0 m ≡ step tightest m s
        unfolding outcome refusal first
        number_9 h = by_number m s n q.is_kind 9 (rw (q.named, q.on_desk, q.none_owed, object, inside, sized, h))

        module _ (room : no_room m s n ≡ false) where
          pub number_10 : wrong_phase m s n ≡ true → done 10 0 m ≡ step tightest m s
          unfolding outcome refusal first
          number_10 h = by_number m s n q.is_kind 10 (rw (q.named, q.on_desk, q.none_owed, object, inside, sized, room, h))

          module _ (phase : wrong_phase m s n ≡ false) where
            pub number_11 : nothing_to_do m s n ≡ true → done 11 0 m ≡ step tightest m s
            unfolding outcome refusal first
            number_11 h = by_number m s n q.is_kind 11 (rw (q.named, q.on_desk, q.none_owed, object, inside, sized, room, phase, h))

            pub number_0 : nothing_to_do m s n ≡ false → act tightest m s n ≡ step tightest m s
            unfolding outcome refusal first
            number_0 h = by_number m s n q.is_kind 0 (rw (q.named, q.on_desk, q.none_owed, object, inside, sized, room, phase, h))
