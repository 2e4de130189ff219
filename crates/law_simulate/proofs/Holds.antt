-- What taking an instruction and the fall of its effect change: who is under way, how many are, and since when.
use Rattle.std.specs.Prelude.{◌≡◌, true, false, ℕ, ◌+◌, ◌*◌, ◌<◌, eqb}
use Rattle.std.proofs.Math.Path.{refl, ap, sym}
use Rattle.std.proofs.Common.{◌∙◌, subst, true≢false, ⊎_elim, arith, eq-eqb, ne_eqb}
use mathlib.Core.List.{List, [], ◌∷◌, ◌++◌, append_assoc, append-nil}
use Rattle.std.proofs.Math.Option.{Option, none, some, some-injective}
use Rattle.spec_words.specs.Words.{pick, halt, pass}
use Rattle.spec_lists.specs.Counting.{one, equal?, one_yes, one_no, total_ext, total_zero, total_plus, total_at}
use Rattle.spec_lists.specs.Maps.{All, all_append}
use Rattle.spec_job.specs.Operations.{Operation}
use Rattle.spec_simulate.specs.Machine.{Event, taken, fallen}
use Rattle.law_simulate.specs.Schedule.{calls_of, Hold, held_by, is_some, busy}

-- no hold is none
pub some_not_none : {x : Hold} {a : Option Hold} → a ≡ some x → ¬ (a ≡ none)
unfolding is_some
some_not_none e f = true≢false (sym (ap is_some e) ∙ ap is_some f)

-- TAKING
module _ (c t : ℕ) (o : Operation) (h : List Event) where
  pub takes_it : held_by t (taken c t o ∷ h) ≡ some (record { start = c; operation = o; before = h })
  unfolding held_by
  takes_it = halt _ _ (eq-eqb t t refl)

  pub takes_other : (u : ℕ) → ¬ (t ≡ u) → held_by u (taken c t o ∷ h) ≡ held_by u h
  unfolding held_by
  takes_other u other = pass _ (ne_eqb t u other) refl

-- THE FALL OF AN EFFECT
module _ (c t : ℕ) (h : List Event) where
  pub falls_it : held_by t (fallen c t ∷ h) ≡ none
  unfolding held_by
  falls_it = halt _ _ (eq-eqb t t refl)

  pub falls_other : (u : ℕ) → ¬ (t ≡ u) → held_by u (fallen c t ∷ h) ≡ held_by u h
  unfolding held_by
  falls_other u other = pass _ (ne_eqb t u other) refl

  -- what is under way after an effect was so before
  pub falls_less : (u : ℕ) (x : Hold) → held_by u (fallen c t ∷ h) ≡ some x → held_by u h ≡ some x
  falls_less u x e =
      ⊎_elim
      (λ same. absurd (some_not_none e (subst (λ (i : ℕ). held_by i (fallen c t ∷ h) ≡ none) same falls_it)))
      (λ other. sym (falls_other u other) ∙ e)
      (equal? t u)

-- HOW MANY ARE UNDER WAY
abbrev here : List Event → ℕ → ℕ
here g u = one (is_some (held_by u g))

one_more : (t : ℕ) (g f : List Event) → t < 128 → here f t ≡ 0 → here g t ≡ 1 → ((u : ℕ) → ¬ (t ≡ u) → here g u ≡ here f u) → busy g ≡ busy f + 1
unfolding busy
one_more t g f small before now others =
    total_ext 128 (here g) (λ u. here f u + one (eqb t u) * 1)
    (λ u below.
    ⊎_elim
    (λ same.
    let a = one_yes t u same in
    let b : here f u ≡ 0 = subst (λ (i : ℕ). here f i ≡ 0) same before in
    let d : here g u ≡ 1 = subst (λ (i : ℕ). here g i ≡ 1) same now in
    omega (arith, a, b, d))
    (λ other. let a = one_no t u other in let b = others u other in omega (arith, a, b))
    (equal? t u))
    ∙ total_plus 128 (here f) (λ u. one (eqb t u) * 1)
    ∙ ap (λ (n : ℕ). busy f + n) (total_at 128 t (λ u. 1) small)

pub takes_busy : (c t : ℕ) (o : Operation) (h : List Event) → t < 128 → held_by t h ≡ none → busy (taken c t o ∷ h) ≡ busy h + 1
takes_busy c t o h small untaken =
    one_more t (taken c t o ∷ h) h small (unfold is_some one pick in ap (λ (a : Option Hold). one (is_some a)) untaken)
    (unfold is_some one pick in ap (λ (a : Option Hold). one (is_some a)) (takes_it c t o h))
    (λ u other. ap (λ (a : Option Hold). one (is_some a)) (takes_other c t o h u other))

pub falls_busy : (c t : ℕ) (h : List Event) (x : Hold) → t < 128 → held_by t h ≡ some x → busy h ≡ busy (fallen c t ∷ h) + 1
falls_busy c t h x small held =
    one_more t h (fallen c t ∷ h) small (unfold is_some one pick in ap (λ (a : Option Hold). one (is_some a)) (falls_it c t h))
    (unfold is_some one pick in ap (λ (a : Option Hold). one (is_some a)) held)
    (λ u other. ap (λ (a : Option Hold). one (is_some a)) (sym (falls_other c t h u other)))

-- where nobody is, none is
pub nobody_busy : (h : List Event) → ((u : ℕ) → held_by u h ≡ none) → busy h ≡ 0
unfolding busy is_some one pick
nobody_busy h none_held = total_zero 128 _ (λ u below. ap (λ (a : Option Hold). one (is_some a)) (none_held u))

-- SINCE it was taken, the effects were those of other tasks
pub record Since (t : ℕ) (h : List Event) (x : Hold) : Type 0 where
  pub others : List ℕ
  pub calls : calls_of h ≡ calls_of x.before ++ others
  pub differ : All (λ u. ¬ (u ≡ t)) others

-- one event more keeps it, but for its own effect
module _ (t : ℕ) (h : List Event) (x : Hold) where
  since_taken : (c u : ℕ) (o : Operation) → Since t h x → Since t (taken c u o ∷ h) x
  unfolding calls_of
  since_taken c u o w = record { others = w.others; calls = w.calls; differ = w.differ }

  since_fallen : (c u : ℕ) → ¬ (u ≡ t) → Since t h x → Since t (fallen c u ∷ h) x
  unfolding calls_of
  since_fallen c u other w =
      record {
        others = w.others ++ (u ∷ []);
        calls = ap (λ (l : List ℕ). l ++ (u ∷ [])) w.calls ∙ append_assoc (calls_of x.before) w.others (u ∷ []);
        differ = all_append (λ i. ¬ (i ≡ t)) w.others (u ∷ []) w.differ (other, tt);
      }

pub since : (t : ℕ) (h : List Event) (x : Hold) → held_by t h ≡ some x → Since t h x
since t [] x e = absurd (some_not_none e (unfold held_by in refl))
since t (taken c u o ∷ h) x e =
    ⊎_elim
    (λ same.
    let y : Hold = record { start = c; operation = o; before = h } in
    let f : some y ≡ some x = sym (subst (λ (i : ℕ). held_by i (taken c u o ∷ h) ≡ some y) same (takes_it c u o h)) ∙ e in
    subst (Since t (taken c u o ∷ h)) (some-injective y x f)
    (record { others = []; calls = unfold calls_of in sym (append-nil (calls_of h)); differ = tt }))
    (λ other. since_taken t h x c u o (since t h x (sym (takes_other c u o h t other) ∙ e)))
    (equal? u t)
since t (fallen c u ∷ h) x e =
    ⊎_elim
    (λ same. absurd (some_not_none e (subst (λ (i : ℕ). held_by i (fallen c u ∷ h) ≡ none) same (falls_it c u h))))
    (λ other. since_fallen t h x c u other (since t h x (falls_less c u h t x e)))
    (equal? u t)
