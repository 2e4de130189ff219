-- The runner's words under a move: a task goes on, finishes, or spawns.
use Rattle.std.specs.Prelude.{◌≡◌, List, ◌∷◌, ◌++◌, ℕ, ◌<◌}
use Rattle.std.proofs.Common.{sym, ◌∙◌, subst, ⊎_elim}
use Rattle.spec_lists.specs.Counting.{equal?}
use Rattle.spec_lists.specs.Maps.{All, all_append, all_front, all_behind}
use Rattle.law_job_order.specs.Beside.{Numbered}
use Rattle.spec_runner.specs.Words.{put}
use Rattle.law_any_order.proofs.Written.{Words, Holds, Other, Written, size_put, put_same, put_other, put_others}

-- n stands between the tasks a and the tasks b, which have other numbers
module _ (r : List ℕ) (a b : List Numbered) (n : Numbered) (h : Written r (a ++ n ∷ b)) (left : All (Other n.number) a)
    (right : All (Other n.number) b) where
  abbrev t : ℕ
  t = n.number

  small : t < 128
  small = (all_behind (Holds r) a (n ∷ b) h.held).0.small

  -- n is not among the others, so where u is none of them and not n, its words are zeros
  zeros : (u : ℕ) → (u ≡ t → ⊥) → All (Other u) a → All (Other u) b → Words r u 0 0 0
  zeros u d x y = h.free u (all_append (Other u) a (n ∷ b) x ((λ e. d (sym e)), y))

  before : (p i x : ℕ) → All (Holds (put r t p i x)) a
  before p i x = put_others r h.sized t p i x a left (all_front (Holds r) a (n ∷ b) h.held)

  behind : (p i x : ℕ) → All (Holds (put r t p i x)) b
  behind p i x = put_others r h.sized t p i x b right (all_behind (Holds r) a (n ∷ b) h.held).1

  pub goes_on : (k : Numbered) → k.number ≡ t
      → Written (put r t k.runner.task.procedure k.runner.task.position k.runner.task.register) (a ++ k ∷ b)
  goes_on k e =
      let p = k.runner.task.procedure in
      let i = k.runner.task.position in
      let x = k.runner.task.register in
      record {
        sized = size_put r h.sized t p i x;
        held = all_append (Holds (put r t p i x)) a (k ∷ b) (before p i x) (
          record {
            small = subst (λ (y : ℕ). y < 128) (sym e) small;
            words = subst (λ (y : ℕ). Words (put r t p i x) y p i x) (sym e) (put_same r h.sized t p i x small);
          },
          behind p i x,
        );
        free = λ u o.
            let w = all_behind (Other u) a (k ∷ b) o in
            let d : (u ≡ t → ⊥) = λ f. w.0 (e ∙ sym f) in
            put_other r h.sized t p i x u 0 0 0 d (zeros u d (all_front (Other u) a (k ∷ b) o) w.1);
      }

  pub finishes : Written (put r t 0 0 0) (a ++ b)
  finishes =
      record {
        sized = size_put r h.sized t 0 0 0;
        held = all_append (Holds (put r t 0 0 0)) a b (before 0 0 0) (behind 0 0 0);
        free = λ u o.
            ⊎_elim
            (λ e. subst (λ (y : ℕ). Words (put r t 0 0 0) y 0 0 0) (sym e) (put_same r h.sized t 0 0 0 small))
            (λ d. put_other r h.sized t 0 0 0 u 0 0 0 d (zeros u d (all_front (Other u) a b o) (all_behind (Other u) a b o)))
            (equal? u t);
      }

  -- a new task c, whose number no unfinished task has
  pub spawns : (k c : Numbered) → k.number ≡ t → c.number < 128 → All (Other c.number) (a ++ n ∷ b)
      → Written
      (put (put r t k.runner.task.procedure k.runner.task.position k.runner.task.register)
      c.number c.runner.task.procedure c.runner.task.position c.runner.task.register)
      (a ++ c ∷ k ∷ b)
  spawns k c e few new =
      let w = goes_on k e in
      let g = put r t k.runner.task.procedure k.runner.task.position k.runner.task.register in
      let p = c.runner.task.procedure in
      let i = c.runner.task.position in
      let x = c.runner.task.register in
      let keep = put_others g w.sized c.number p i x in
      let others = all_behind (Other c.number) a (n ∷ b) new in
      record {
        sized = size_put g w.sized c.number p i x;
        held = all_append (Holds (put g c.number p i x)) a (c ∷ k ∷ b)
            (keep a (all_front (Other c.number) a (n ∷ b) new) (all_front (Holds g) a (k ∷ b) w.held)) (
              record { small = few; words = put_same g w.sized c.number p i x few },
              keep (k ∷ b) ((λ f. others.0 (sym e ∙ f)), others.1) (all_behind (Holds g) a (k ∷ b) w.held),
            );
        free = λ u o.
            let v = all_behind (Other u) a (c ∷ k ∷ b) o in
            put_other g w.sized c.number p i x u 0 0 0 (λ f. v.0 (sym f))
            (w.free u (all_append (Other u) a (k ∷ b) (all_front (Other u) a (c ∷ k ∷ b) o) v.1));
      }
