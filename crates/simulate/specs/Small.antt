-- NO CLOCK WRAPS: a round moves the clock by at most the greatest number of the table, so that it stays small for as many rounds as there are
-- effects.
use Rattle.std.specs.Prelude.{◌≡◌, refl, Bool, not, List, [], ◌∷◌, eqb}
use Rattle.std.proofs.Common.{ap, sym, arith, eq-eqb, ne_eqb}
use Rattle.std.proofs.Math.Path.{subst}
use Rattle.std.proofs.Math.Bool.{true, false}
use Rattle.std.proofs.lemmas.Bool.{false≢true}
use Rattle.std.proofs.Math.Logic.{⊎_elim}
use Prim.Native.Nat.{ℕ, ◌+◌, ◌<◌, ◌≤◌}
use Rattle.std.proofs.Math.ListN.{get_or-eq_default}
use Rattle.spec_words.specs.Words.{load, store, size, pick, either, halt, pass, size_store, load_same, load_other}
use Rattle.spec_lists.specs.Counting.{equal?, below?}
use Rattle.spec_outcomes.specs.Waits.{unfinished}
use Rattle.spec_runner.specs.Answers.{answer_of}
use Rattle.law_simulate.proofs.Soonest.{soonest_is}
use Rattle.spec_simulate.specs.declared.Would.{Would}
use Rattle.spec_simulate.specs.declared.Would.TheVariants.{Moves, Waits, Refused}
use Rattle.spec_simulate.specs.declared.Simulated.{Simulated}
use Rattle.spec_simulate.specs.Ticks.{ticks_for, number, operation_of}
use Rattle.spec_simulate.specs.Machine.{State, Led, on, over, next, each, in_program_order, would_be, step_of, ticks_of, taking, chosen, choose_one, choose, soonest}
use Rattle.spec_simulate.specs.Machine.{clock_at, advance, falling, judged, fell, fall_one, fall, round}
use Rattle.simulate.specs.Parts.{Table}

-- the clock goes to tick d
abbrev pub with_clock : State → ℕ → State
with_clock s d =
    record {
      core = s.core;
      runner = s.runner;
      clock = d;
      ends = s.ends;
      free = s.free;
      effects = s.effects;
      work = s.work;
      history = s.history;
    }

pub clock_none : (s : State) (d : ℕ) → d ≡ 0 → clock_at s d ≡ over Simulated.Spent s
unfolding clock_at
clock_none s d none = halt _ _ (eq-eqb d 0 none)

pub clock_on : (s : State) (d : ℕ) → ¬ (d ≡ 0) → clock_at s d ≡ on (with_clock s d)
unfolding clock_at
clock_on s d some = pass _ (ne_eqb d 0 some) refl

-- P holds where a phase goes on
data Going (P : State → Type 0) : Led → Type 0 where
  going : (s : State) → P s → Going P (on s)
  gone : (a : Simulated) (s : State) → Going P (over a s)

goes_on : Led → Bool
goes_on (on s) = true
goes_on (over a s) = false

state_of : Led → State
state_of (on s) = s
state_of (over a s) = s

says : {P : State → Type 0} {x : Led} → Going P x → (s : State) → x ≡ on s → P s
unfolding goes_on state_of
says {P = P} (going s p) s' e = subst P (ap state_of e) p
says (gone a s) s' e = absurd (false≢true (ap goes_on e))

follows : {P Q : State → Type 0} (x : Led) (f : State → Led) → Going P x → ((s : State) → P s → Going Q (f s)) → Going Q (next x f)
unfolding next
follows _ f (going s p) h = h s p
follows _ f (gone a s) h = gone a s

along : {P : State → Type 0} (f : ℕ → State → Led) → ((t : ℕ) (s : State) → P s → Going P (f t s)) → (ts : List ℕ) (s : State) → P s → Going P (each f ts s)
unfolding each
along f h [] s p = going s p
along f h (t ∷ ts) s p = follows (f t s) (each f ts) (h t s p) (along f h ts)

-- no end is past n
abbrev pub Bounded : List ℕ → ℕ → Type 0
Bounded ends n = (u : ℕ) → load ends u ≤ n

bounded_store : (ends : List ℕ) (t v n : ℕ) → v ≤ n → Bounded ends n → Bounded (store ends t v) n
bounded_store ends t v n small b u =
    ⊎_elim
    (λ same. subst (λ (i : ℕ). load (store ends t v) i ≤ n) same (⊎_elim inside outside (below? t (size ends))))
    (λ other. let a = load_other ends t u v (λ e. other (sym e)) in let c = b u in omega (arith, a, c))
    (equal? t u)
  where
    inside : t < size ends → load (store ends t v) t ≤ n
    inside l = let a = load_same ends t v l in omega (arith, a, small)

    outside : size ends ≤ t → load (store ends t v) t ≤ n
    outside l =
        let a : load (store ends t v) t ≡ 0 =
        (unfold load size in get_or-eq_default (store ends t v) 0 (let b = size_store ends t v in omega (arith, b, l))) in
        omega (arith, a)

module _ (j table : List ℕ) (few : Table table) (n : ℕ) where
  abbrev Choosing : State → Type 0
  Choosing s = (s.clock ≤ n) × Bounded s.ends (n + 1000)

  abbrev Falling : State → Type 0
  Falling s = (s.clock ≤ n + 1000) × Bounded s.ends (n + 1000)

  ticks_few : (t : ℕ) (s : State) → ticks_of j table t s ≤ 1000
  unfolding ticks_of ticks_for
  ticks_few t s = few (number (operation_of j s.runner t))

  choose_small : (t : ℕ) (s : State) → Choosing s → Going Choosing (choose_one j table t s)
  unfolding choose_one
  choose_small t s p = go (either (eqb s.free 0) (not (eqb (load s.ends t) 0))) (would_be (answer_of (step_of j t s)))
    where
      go : (b : Bool) (x : Would) → Going Choosing (pick b (on s) (chosen j table t s x))
      go true x = unfold pick in going s p
      go false Moves =
          unfold pick chosen taking in
          going _ (p.0, bounded_store s.ends t (s.clock + ticks_of j table t s) (n + 1000) (let a = p.0 in let b = ticks_few t s in omega (arith, a, b)) p.1)
      go false Waits = unfold pick chosen in going s p
      go false (Refused k) = unfold pick chosen in gone _ s

  clock_small : (s : State) → Choosing s → Going Falling (advance s)
  unfolding advance
  clock_small s p =
      ⊎_elim
      (λ none. subst (Going Falling) (sym (clock_none s d none)) (gone Simulated.Spent s))
      (λ some. subst (Going Falling) (sym (clock_on s d some)) (going (with_clock s d) (below, p.1)))
      (equal? d 0)
    where
      d : ℕ
      d = soonest s.ends (in_program_order s.core) 0

      below : soonest s.ends (in_program_order s.core) 0 ≤ n + 1000
      below =
          ⊎_elim (λ z. omega (arith, z)) (λ w. let a = p.1 w.0 in let b = w.2 in omega (arith, a, b)) (soonest_is s.ends (in_program_order s.core) 0).met

  fall_small : (t : ℕ) (s : State) → Falling s → Going Falling (fall_one j table t s)
  unfolding fall_one
  fall_small t s p = go (eqb (load s.ends t) s.clock) (would_be (answer_of (step_of j t s)))
    where
      fallen : Falling (falling j table t s (step_of j t s))
      fallen = unfold falling in (p.0, bounded_store s.ends t 0 (n + 1000) (omega arith) p.1)

      judges : (s' : State) → Falling s' → Going Falling (judged s')
      judges s' q = unfold judged in by (unfinished s'.core 0) (eqb s'.effects 65535)
        where
          by : (a b : Bool) → Going Falling (pick a (pick b (over Simulated.Spent s') (on s')) (over (Simulated.Ended s'.clock s'.work) s'))
          by true true = unfold pick in gone _ s'
          by true false = unfold pick in going s' q
          by false b = unfold pick in gone _ s'

      go : (b : Bool) (x : Would) → Going Falling (pick b (fell j table t s (step_of j t s) x) (on s))
      go true Moves = unfold pick fell in judges (falling j table t s (step_of j t s)) fallen
      go true Waits = unfold pick fell in going s p
      go true (Refused k) = unfold pick fell in gone _ s
      go false x = unfold pick in going s p

  pub round_small : (s s' : State) → s.clock ≤ n → Bounded s.ends (n + 1000) → round j table s ≡ on s'
      → (s'.clock ≤ n + 1000) × Bounded s'.ends (n + 1000)
  unfolding round choose fall
  round_small s s' c b is =
      says
      (follows (next (choose j table s) advance) (fall j table)
      (follows (choose j table s) advance (along (choose_one j table) choose_small (in_program_order s.core) s (c, b)) clock_small)
      (λ x p. along (fall_one j table) fall_small (in_program_order x.core) x p))
      s' is
