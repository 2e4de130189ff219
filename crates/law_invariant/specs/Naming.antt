-- WHAT NAMES A SEGMENT, by the meaning of the words: the head of one queue view, and nothing else.
use Rattle.std.specs.Prelude.{◌≡◌, List, ◌⊎◌, ℕ, ◌+◌, ◌-◌, ◌*◌, ◌/◌, ◌%◌, ◌<◌}
use Rattle.std.proofs.Math.Path.{ap}
use Rattle.std.proofs.Common.{sym, ◌∙◌, inl, inr, ⊎_elim, arith}
use Rattle.std.proofs.Math.Option.{some}
use Rattle.spec_lists.specs.Counting.{occurrences, equal?, below?}
use Rattle.spec_layout.specs.Layout.{NL, QUEUE_HEADS, task, queue_head, head, tail, read}
use Rattle.spec_outcomes.specs.Views.{view_of, not_empty}
use Rattle.spec_lists.specs.Maps.{put, put_same, put_other}
use Rattle.law_gaps.specs.Line.{End, local, Extent, extent}
use Rattle.spec_order.specs.Steps.{Item}
use Rattle.law_links.specs.Linked.{Linked, tour_is}
use Rattle.law_maps.specs.Meaning.{Meaning, meaning_of, optional, end_of}
use Rattle.law_maps.specs.Reads.{head_at, view_at_lem}
use Rattle.law_maps.specs.Free.{optional_some, link_word}
use Rattle.law_maps.specs.Extents.{end_local, filled_extent}
use Rattle.law_maps.specs.Update.{with_view}
use Rattle.law_maps.specs.Links.{NamedBy}
use Rattle.law_invariant.specs.Named.{OnlyNamed, named_by}

-- Of all heads of views of the tasks of the tour T only the head of queue view q of task h is segment g.
pub record Names (M : Meaning) (T : List ℕ) (g h q : ℕ) : Type 0 where
  pub head : M.heads q h ≡ some g
  pub heads : (x p : ℕ) → x < 128 → 0 < occurrences x T → p < 4 → M.heads p x ≡ some g → (x ≡ h) × (p ≡ q)
  pub views : (x p k : ℕ) → x < 128 → 0 < occurrences x T → p < 4 → k < 3 → (y : End) → M.views p k x ≡ extent (local g) y → ⊥

-- A VIEW WRITTEN that does not begin with g
written : (f : ℕ → ℕ → ℕ → Extent) (p k t : ℕ) (v : Extent) (p' k' x : ℕ)
    → (put f p (put (f p) k (put (f p k) t v)) p' k' x ≡ v) ⊎ (put f p (put (f p) k (put (f p k) t v)) p' k' x ≡ f p' k' x)
written f p k t v p' k' x =
    ⊎_elim
    (λ e. let a = ap (λ (i : ℕ). put f p F i k' x) e ∙ ap (λ (g : ℕ → ℕ → Extent). g k' x) (put_same f p F) in
    ⊎_elim
    (λ d. let b = a ∙ ap (λ (i : ℕ). F i x) d ∙ ap (λ (g : ℕ → Extent). g x) (put_same (f p) k G) in
    ⊎_elim
    (λ c. inl (b ∙ ap G c ∙ put_same (f p k) t v))
    (λ c. inr (b ∙ put_other (f p k) t v x c ∙ ap (λ (i : ℕ). f p i x) (sym d) ∙ ap (λ (i : ℕ). f i k' x) (sym e)))
    (equal? x t))
    (λ d. inr (a ∙ ap (λ (g : ℕ → Extent). g x) (put_other (f p) k G k' d) ∙ ap (λ (i : ℕ). f i k' x) (sym e)))
    (equal? k' k))
    (λ e. inr (ap (λ (g : ℕ → ℕ → Extent). g k' x) (put_other f p F p' e)))
    (equal? p' p)
  where
    G : ℕ → Extent
    G = put (f p k) t v

    F : ℕ → ℕ → Extent
    F = put (f p) k (put (f p k) t v)

pub names_view : (M : Meaning) (T : List ℕ) (g h q : ℕ) (p k t : ℕ) (v : Extent) → ((y : End) → v ≡ extent (local g) y → ⊥) → Names M T g h q
    → Names (with_view M p k t v) T g h q
names_view M T g h q p k t v n w =
    record {
      head = w.head;
      heads = w.heads;
      views = λ x p' k' l i a b y e. ⊎_elim (λ d. n y (sym d ∙ e)) (λ d. w.views x p' k' l i a b y (sym d ∙ e)) (written M.views p k t v p' k' x);
    }

-- BY THE WORDS
module _ (n : List ℕ) (T : List ℕ) (g h q : ℕ) (small : h < 128) (queue : q < 4) (low : g < NL) (there : 0 < occurrences h T)
    (w : Names (meaning_of n) T g h q) where
  none_word : (x k p : ℕ) → x < 128 → 0 < occurrences x T → k < 3 → p < 4 → read n (head k x p) ≡ g → ⊥
  unfolding view_of
  none_word x k p l i a b e =
      w.views x p k l i b a (end_of (read n (tail k x p)))
      (view_at_lem n p k x b a l
      ∙ filled_extent (read n (head k x p)) (read n (tail k x p)) (not_empty (read n (head k x p)) (read n (tail k x p)) (λ z. omega (arith, z, e, low)))
      ∙ ap (λ (y : End). extent y (end_of (read n (tail k x p)))) (end_local (read n (head k x p)) (λ z. omega (arith, z, e, low)) ∙ ap local e))

  by_word : (x i : ℕ) → x < 128 → 0 < occurrences x T → i < 16 → read n (task x (QUEUE_HEADS + i)) ≡ g → (x ≡ h) × (i ≡ q)
  by_word x i l t j e =
      ⊎_elim
      (λ b. w.heads x i l t b (head_at n i x b l ∙ ap optional e ∙ optional_some g (λ z. omega (arith, z, low))))
      (λ b.
      absurd (none_word x ((i - 4) / 4) ((i - 4) % 4) l t (omega (arith, j)) (omega arith)
      (ap (λ (k : ℕ). read n (task x k)) (let z : 20 + (i - 4) / 4 * 4 + (i - 4) % 4 ≡ 16 + i = omega (arith, b) in z) ∙ e)))
      (below? i 4)

  pub names_only : OnlyNamed n T g h q
  names_only =
      record {
        task_range = small;
        queue_range = queue;
        there = there;
        names = link_word (read n (queue_head h q)) g (sym (head_at n q h queue small) ∙ w.head);
        only = λ x i l t j e. by_word x i l t j e;
      }

  -- so a search for what names g finds that head
  pub names_by : (xs : List Item) → Linked n T xs → NamedBy n g h q
  names_by xs a = named_by n T g h q (tour_is n T xs a) names_only
