-- How each test of `simulate` leads to its promise.
--
--   Passed t N len       == nothing speaks against a simulation of t for N occurrences into len places
--   Judgement t N len r  == r refuses it, as the promise says; or it does not, and nothing speaks against it
use Prim.{Unit}
use Rattle.std.specs.Prelude.{◌≡◌, refl, List, ℕ, ◌*◌, ◌≤◌, ◌<◌, length, Result, Ok, Err}
use Rattle.std.proofs.Common.{inl, inr, arith, mul-le-mul}
use Rattle.model.specs.Loop.{Live}
use Rattle.model.specs.Knot.{Knot}
use Rattle.model.specs.Times.{Timed}
use Rattle.theory.specs.Knot.{knot_unique, knot_not_live}
use Rattle.refusals.specs.declared.Why.{Why}
use Rattle.refusals.specs.declared.Why.TheVariants.{Unknown, Room, Span}
use Rattle.refusals.specs.declared.Refusal.{Refusal}
use Rattle.refusals.specs.Number.{number_of, number_positive, Told, told}
use Rattle.table.specs.declared.Table.{Table}
use Rattle.table.specs.Fields.{Within, FirstBad, within_not_bad, first_bad_unique}
use Rattle.table.specs.Meaning.{shape_of, ranges_of}
use Rattle.engine.specs.Turn.{TurnOf}
use Rattle.simulation.specs.Simulation.{Span as Spans, NoBlank, FirstBlank, Refused, SimulationOf}

pub record Passed (t : Table) (N len : ℕ) : Type 0 where
  pub within : Within t
  pub span : Spans N
  pub none : NoBlank t
  pub room : t.n * N ≤ len
  pub live : Live (shape_of t)

abbrev pub Judgement : Table → ℕ → ℕ → Result Unit Refusal → Type 0
Judgement t N len (Err e) = (out : List ℕ) → length out ≡ len → SimulationOf t N out (told {A = Unit} (Err e)) out
Judgement t N len (Ok _) = Passed t N len

abbrev at : Why → ℕ → Refusal
at w p = record { why = w; place = p }

-- the places needed are counted in 64 bits
pub room_low : (t : Table) (N : ℕ) → Within t → Spans N → t.n * N ≤ 262144
room_low t N w n = mul-le-mul {n₁ = t.n} {m₁ = N} {n₂ = 256} {m₂ = 1024} w.n_high n.1

-- a lowest blank is one
first_blank_unique : (t : Table) (q r : ℕ) → FirstBlank t q → FirstBlank t r → q ≡ r
first_blank_unique t q r a b = equal q r (λ l. b.before q l a.blank) (λ l. a.before r l b.blank)
  where
    equal : (q r : ℕ) → (q < r → ⊥) → (r < q → ⊥) → q ≡ r
    equal q r a b = omega arith

module _ (t : Table) (N len : ℕ) where
  -- refused, the buffer is as it was
  here : (e : Refusal) (f q : ℕ) (out : List ℕ) → number_of e.why ≡ f → e.place ≡ q → Refused f q out (told {A = Unit} (Err e)) out
  here e f q out a b = record { number = a; place = b; kept = refl }

  judge : (e : Refusal) → ((out : List ℕ) → length out ≡ len → SimulationOf t N out (told {A = Unit} (Err e)) out) → Judgement t N len (Err e)
  judge e h = h

  pub judge_outside : (e : Refusal) → FirstBad t e.place × (number_of e.why ≡ 3) → Judgement t N len (Err e)
  judge_outside e (bad, z) =
      judge e
      (λ out size.
      record {
        outside = λ j b. here e 3 j out z (first_bad_unique t e.place j bad b);
        span = λ w. absurd (within_not_bad t e.place w bad);
        unknown = λ w. absurd (within_not_bad t e.place w bad);
        room = λ w. absurd (within_not_bad t e.place w bad);
        loop = λ w. absurd (within_not_bad t e.place w bad);
        simulated = λ w. absurd (within_not_bad t e.place w bad);
      })

  module _ (w : Within t) where
    pub judge_span : ¬ (Spans N) → Judgement t N len (Err (at Span 0))
    judge_span d =
        judge (at Span 0)
        (λ out size.
        record {
          outside = λ j b. absurd (within_not_bad t j w b);
          span = λ w d. here (at Span 0) 9 0 out refl refl;
          unknown = λ w n. absurd (d n);
          room = λ w n. absurd (d n);
          loop = λ w n. absurd (d n);
          simulated = λ w n. absurd (d n);
        })

    module _ (n : Spans N) where
      pub judge_blank : (q : ℕ) → FirstBlank t q → Judgement t N len (Err (at Unknown q))
      judge_blank q f =
          judge (at Unknown q)
          (λ out size.
          record {
            outside = λ j b. absurd (within_not_bad t j w b);
            span = λ w d. absurd (d n);
            unknown = λ w n r g. here (at Unknown q) 7 r out refl (first_blank_unique t q r f g);
            room = λ w n none. absurd (none q f.blank);
            loop = λ w n none. absurd (none q f.blank);
            simulated = λ w n none. absurd (none q f.blank);
          })

      module _ (none : NoBlank t) where
        pub judge_room : len < t.n * N → Judgement t N len (Err (at Room (t.n * N)))
        judge_room l =
            judge (at Room (t.n * N))
            (λ out size.
            record {
              outside = λ j b. absurd (within_not_bad t j w b);
              span = λ w d. absurd (d n);
              unknown = λ w n q f. absurd (none q f.blank);
              room = λ w n none l. here (at Room (t.n * N)) 8 (t.n * N) out refl refl;
              loop = λ w n none room. absurd (omega arith);
              simulated = λ w n none room. absurd (omega arith);
            })

        module _ (room : t.n * N ≤ len) where
          judge_loop : (e : Refusal) → Knot (shape_of t) e.place → number_of e.why ≡ 5 → Judgement t N len (Err e)
          judge_loop e k z =
              judge e
              (λ out size.
              record {
                outside = λ j b. absurd (within_not_bad t j w b);
                span = λ w d. absurd (d n);
                unknown = λ w n q f. absurd (none q f.blank);
                room = λ w n none l. absurd (omega arith);
                loop = λ w n none room v j. here e 5 v out z (knot_unique (shape_of t) e.place v k j);
                simulated = λ w n none room live. absurd (knot_not_live (shape_of t) e.place k live);
              })

          -- what is said of the loops is said last
          pub judge_turned : (x : Result Unit Refusal) → TurnOf t (told x) → Judgement t N len x
          judge_turned (Err e) (inl a) = judge_outside e a
          judge_turned (Err e) (inr (inl a)) = judge_loop e a.1 a.2
          judge_turned (Err e) (inr (inr a)) = absurd (omega (arith, a.2, number_positive e.why))
          judge_turned (Ok _) (inl a) = absurd (omega (arith, a.1))
          judge_turned (Ok _) (inr (inl a)) = absurd (omega (arith, a.2))
          judge_turned (Ok _) (inr (inr a)) = record { within = w; span = n; none = none; room = room; live = a.1 }

-- a simulation that nothing speaks against
pub simulated : (t : Table) (N : ℕ) (out₀ out : List ℕ) (r : Told) → Passed t N (length out₀) → r.refusal ≡ 0 → r.place ≡ 0
    → Timed (shape_of t) (ranges_of t).least N t.n out₀ out → SimulationOf t N out₀ r out
simulated t N out₀ out r p e f times =
    record {
      outside = λ j b. absurd (within_not_bad t j p.within b);
      span = λ w d. absurd (d p.span);
      unknown = λ w n q b. absurd (p.none q b.blank);
      room = λ w n none l. absurd (omega (arith, p.room));
      loop = λ w n none room u k. absurd (knot_not_live (shape_of t) u k p.live);
      simulated = λ w n none room live. record { number = e; place = f; times = times };
    }
