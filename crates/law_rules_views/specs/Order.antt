-- The state of the test of order is made from the views passed so far; it says that they are joined.
use Rattle.std.specs.Prelude.{◌≡◌, refl, List, [], ◌∷◌, ◌⊎◌, ◌↔◌, ℕ, ◌≤◌, eqb}
use Rattle.std.proofs.Common.{ap, sym, ◌∙◌, inl, inr, ⊎_elim, arith, eq-eqb, ne_eqb}
use Rattle.spec_words.specs.Words.{pick, pass, halt, true_both, both_off}
use Rattle.spec_lists.specs.Counting.{equal?}
use Rattle.spec_layout.specs.Layout.{NONE, NL}
use Rattle.spec_rules.specs.Views.{View, view, more, Joined}
use Rattle.spec_rules.specs.Test.{marked, passed}
use Rattle.spec_rules.specs.Passed.{marked_yes, marked_no, passed_none, passed_fit, passed_odd, passed_half, passed_open}

marked_nl : (e : ℕ) → marked e ≡ 1 → e ≡ NL
marked_nl e m = ⊎_elim (λ q. q) (λ q. let a = marked_no e q in let z : ⊥ = omega (arith, a, m) in absurd z) (equal? e NL)

marked_few : (e : ℕ) → marked e ≤ 1
marked_few e = ⊎_elim (λ q. let a = marked_yes e q in omega (arith, a)) (λ q. let a = marked_no e q in omega (arith, a)) (equal? e NL)

-- both ends of a view are the mark for none, or neither
abbrev pub Pair : ℕ → ℕ → Type 0
Pair h e = ((h ≡ NONE) × (e ≡ NONE)) ⊎ ((h ≡ NONE → ⊥) × (e ≡ NONE → ⊥))

-- a view whose ends are not a pair breaks the rule
pub passed_pair : (h e o : ℕ) → (passed h e o ≡ 2 → ⊥) → Pair h e
passed_pair h e o f =
    ⊎_elim
    (λ p. ⊎_elim (λ q. inl (p, q)) (λ q. absurd (f (passed_half h e o p q))) (equal? e NONE))
    (λ p. ⊎_elim (λ q. absurd (f (passed_open h e o p q))) (λ q. inr (p, q)) (equal? e NONE))
    (equal? h NONE)

-- what is broken stays so
pub passed_broken : (h e : ℕ) → passed h e 2 ≡ 2
passed_broken h e =
    ⊎_elim
    (λ p. ⊎_elim (λ q. passed_none h e 2 p q) (λ q. passed_half h e 2 p q) (equal? e NONE))
    (λ p. passed_odd h e 2 p (λ m. let a = marked_few e in omega (arith, a, m)))
    (equal? h NONE)

-- the state in front of views that are not empty
unfoldable pub state : List View → ℕ
state [] = 0
state (view h e ∷ vs) = let o = state vs in pick (eqb (marked e) o) (marked h) 2

more_none : (h e : ℕ) (vs : List View) → h ≡ NONE → e ≡ NONE → more (view h e) vs ≡ vs
unfolding more
more_none h e vs p q = halt _ _ (true_both (eq-eqb h NONE p) (eq-eqb e NONE q))

more_some : (h e : ℕ) (vs : List View) → (h ≡ NONE → ⊥) → more (view h e) vs ≡ view h e ∷ vs
unfolding more
more_some h e vs p = pass _ (both_off _ (ne_eqb h NONE p)) refl

state_fit : (h e : ℕ) (vs : List View) → marked e ≡ state vs → state (view h e ∷ vs) ≡ marked h
unfolding state
state_fit h e vs m = halt _ _ (eq-eqb _ _ m)

state_odd : (h e : ℕ) (vs : List View) → (marked e ≡ state vs → ⊥) → state (view h e ∷ vs) ≡ 2
unfolding state
state_odd h e vs m = pass _ (ne_eqb _ _ m) refl

pub state_nil : state [] ≡ 0
unfolding state
state_nil = refl

-- passing a view puts it in front of those behind
pub passed_state : (h e : ℕ) (vs : List View) → Pair h e → passed h e (state vs) ≡ state (more (view h e) vs)
passed_state h e vs w =
    ⊎_elim
    (λ n. passed_none h e (state vs) n.0 n.1 ∙ ap state (sym (more_none h e vs n.0 n.1)))
    (λ n.
    ⊎_elim
    (λ m. passed_fit h e (state vs) n.0 n.1 m ∙ sym (state_fit h e vs m) ∙ ap state (sym (more_some h e vs n.0)))
    (λ m. passed_odd h e (state vs) n.0 m ∙ sym (state_odd h e vs m) ∙ ap state (sym (more_some h e vs n.0)))
    (equal? (marked e) (state vs)))
    w

-- THE STATE says whether a tail in front joins the views.
pub state_joined : (e : ℕ) (vs : List View) → marked e ≡ state vs → Joined e vs
state_joined e [] m = λ q. let a = marked_yes e q in let b = state_nil in omega (arith, a, b, m)
state_joined e (view h f ∷ vs) m =
    ⊎_elim
    (λ n. (alike (m ∙ state_fit h f vs n), state_joined f vs n))
    (λ n. let a = state_odd h f vs n in let b = marked_few e in let z : ⊥ = omega (arith, a, b, m) in absurd z)
    (equal? (marked f) (state vs))
  where
    alike : marked e ≡ marked h → (e ≡ NL) ↔ (h ≡ NL)
    alike n = ((λ q. marked_nl h (sym n ∙ marked_yes e q)), (λ q. marked_nl e (n ∙ marked_yes h q)))

pub joined_state : (e : ℕ) (vs : List View) → Joined e vs → marked e ≡ state vs
joined_state e [] j = marked_no e j ∙ sym state_nil
joined_state e (view h f ∷ vs) j = alike ∙ sym (state_fit h f vs (joined_state f vs j.1))
  where
    alike : marked e ≡ marked h
    alike =
        ⊎_elim
        (λ q. marked_yes e q ∙ sym (marked_yes h (j.0.0 q)))
        (λ q. marked_no e q ∙ sym (marked_no h (λ z. q (j.0.1 z))))
        (equal? e NL)
