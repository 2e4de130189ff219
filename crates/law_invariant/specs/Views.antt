-- The views of a task of the tour, by the words and by the line of a queue.
use Rattle.std.specs.Prelude.{◌≡◌, Bool, true, not, ℕ, ◌+◌, ◌<◌}
use Rattle.std.proofs.Math.Path.{ap, sym}
use Rattle.std.proofs.Common.{◌∙◌, arith, lt-ltb, ltb-true, ne_eqb}
use Rattle.std.proofs.lemmas.Bool.{false≢true}
use mathlib.Core.List.{List, [], ◌∷◌}
use Rattle.std.proofs.Math.Logic.{⊎_elim}
use Rattle.spec_words.specs.Words.{true_both, both_true, halt}
use Rattle.spec_lists.specs.Counting.{occurrences, occurs_nil, occurs_here, occurs_past, equal?, occurs_later}
use Rattle.spec_layout.specs.Layout.{FREE, STATUS, task, read, CHILDREN, USER, RIGHT}
use Rattle.spec_rules.specs.Contents.{decode}
use Rattle.spec_rules.specs.Rules.{Unfinished}
use Rattle.spec_lists.specs.Maps.{All}
use Rattle.law_gaps.specs.Line.{base, exited, entered, pass, Line, marks, exits, entries, Fits}
use Rattle.law_gaps.proofs.Search.{task_at, task_entered, task_exited}
use Rattle.law_links.specs.Linked.{word_is}
use Rattle.law_maps.specs.Meaning.{heads_in, view_in}
use Rattle.law_invariant.specs.Represents.{alive, uses_in, of_tasks, queue_memory}

-- a task with a right is entered, and exited, in the line where the tour meets and leaves it
module _ (uses : ℕ → Bool) where
  pub entered_in : (l : Line) → All (Fits uses) l → (x : ℕ) → x < 128 → uses x ≡ true → 0 < occurrences x (marks l) → 0 < occurrences x (entries l)
  unfolding task_at
  entered_in [] f x s u p = p
  entered_in (base c ∷ l) f x s u p = entered_in l f.1 x s u p
  entered_in (exited t ∷ l) f x s u p =
      let e = occurs_past (128 + t) x (marks l) (λ q. omega (arith, q, s)) in entered_in l f.1 x s u (omega (arith, e, p))
  entered_in (entered t c ∷ l) f x s u p =
      ⊎_elim
      (λ e. let g = occurs_here t x (entries l) e in omega (arith, g))
      (λ n. let e = occurs_past t x (marks l) n in occurs_later t x (entries l) (entered_in l f.1 x s u (omega (arith, e, p))))
      (equal? t x)
  entered_in (pass y ∷ l) f x s u p =
      ⊎_elim
      (λ e. absurd (false≢true (sym f.0 ∙ ap (λ (z : ℕ). uses (task_at z)) e ∙ ap uses (task_entered x s) ∙ u)))
      (λ n. let e = occurs_past y x (marks l) n in entered_in l f.1 x s u (omega (arith, e, p)))
      (equal? y x)

  pub exited_in : (l : Line) → All (Fits uses) l → All (λ t. t < 128) (entries l) → (x : ℕ) → uses x ≡ true → 0 < occurrences (128 + x) (marks l)
      → 0 < occurrences x (exits l)
  unfolding task_at
  exited_in [] f s x u p = let e = occurs_nil (128 + x) in let z : ⊥ = omega (arith, e, p) in absurd z
  exited_in (base c ∷ l) f s x u p = exited_in l f.1 s x u p
  exited_in (exited t ∷ l) f s x u p =
      ⊎_elim
      (λ e. let g = occurs_here t x (exits l) e in omega (arith, g))
      (λ n.
      let e = occurs_past (128 + t) (128 + x) (marks l) (λ q. n (omega (arith, q))) in
      occurs_later t x (exits l) (exited_in l f.1 s x u (omega (arith, e, p))))
      (equal? t x)
  exited_in (entered t c ∷ l) f s x u p =
      let b = s.0 in
      let e = occurs_past t (128 + x) (marks l) (λ q. omega (arith, q, b)) in
      exited_in l f.1 s.1 x u (omega (arith, e, p))
  exited_in (pass y ∷ l) f s x u p =
      ⊎_elim
      (λ e. absurd (false≢true (sym f.0 ∙ ap (λ (z : ℕ). uses (task_at z)) e ∙ ap uses (task_exited x) ∙ u)))
      (λ n. let e = occurs_past y (128 + x) (marks l) n in exited_in l f.1 s x u (omega (arith, e, p)))
      (equal? y (128 + x))

-- a task of the tour is in use
pub unfinished_alive : (m : List ℕ) (t : ℕ) → Unfinished (decode m) t → alive m t ≡ true
unfolding alive
unfinished_alive m t u =
    true_both (lt-ltb t 128 u.0) (ap not (ne_eqb (read m (task t STATUS)) FREE (λ e. let f = sym (word_is m t STATUS) ∙ u.1 in omega (arith, e, f))))

pub uses_small : (m : List ℕ) (q t : ℕ) → uses_in m q t ≡ true → t < 128
unfolding uses_in
uses_small m q t e = ltb-true t 128 (both_true _ _ e).0

-- the views of a task in use, and its queue head, by the words
module _ (n : List ℕ) (q x : ℕ) (live : alive n x ≡ true) where
  pub children_word : view_in n q CHILDREN x ≡ (queue_memory n q).children x
  unfolding queue_memory of_tasks
  children_word = sym (halt _ _ live)

  pub user_word : view_in n q USER x ≡ (queue_memory n q).user x
  unfolding queue_memory of_tasks
  user_word = sym (halt _ _ live)

  pub right_word : view_in n q RIGHT x ≡ (queue_memory n q).right x
  unfolding queue_memory of_tasks
  right_word = sym (halt _ _ live)

  pub head_word : heads_in n q x ≡ (queue_memory n q).store.heads x
  unfolding queue_memory of_tasks
  head_word = sym (halt _ _ live)
