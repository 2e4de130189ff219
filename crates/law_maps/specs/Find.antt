-- What the calls look for, by the meaning: a value at the head of a queue, and the marks at which a view stands.
use Rattle.std.specs.Prelude.{◌≡◌, refl, Bool, true, false, List, [], ◌∷◌, ltb, eqb}
use Rattle.std.proofs.Math.Path.{ap}
use Rattle.std.proofs.Common.{ap₂, sym, ◌∙◌, arith, eq-eqb, ne_eqb, lt-ltb}
use Rattle.std.proofs.Math.Bool.{not}
use Rattle.std.proofs.Math.Option.{some}
use Prim.Native.Nat.{ℕ, suc, ◌-◌, ◌<◌}
use Rattle.std.proofs.Math.ListN.{length}
use Rattle.spec_words.specs.Words.{both, either, both_right_off, true_both}
use Rattle.spec_layout.specs.Layout.{NL, CHILDREN, count, Opened, rights_of, queue_head, read}
use Rattle.spec_tree.specs.Rights.{uses}
use Rattle.spec_outcomes.specs.Segments.{value_at}
use Rattle.spec_outcomes.specs.Views.{view_of, task_at, has_part, stands_at}
use Rattle.spec_outcomes.specs.Take.{has_value}
use Rattle.law_gaps.proofs.Search.{occupied, task_at as markedTask, has_part as partTaken, stands_at as viewStands}
use Rattle.law_maps.specs.Meaning.{contents_in, heads_in, view_in, Sized}
use Rattle.law_maps.specs.Reads.{head_at, view_at_lem}
use Rattle.law_maps.specs.Ring.{count_length}
use Rattle.law_maps.specs.Segment.{number_below}
use Rattle.law_maps.specs.Values.{first_value}
use Rattle.law_maps.specs.Free.{link_word}
use Rattle.law_maps.specs.Extents.{not_empty}

module _ (m : List ℕ) (t q : ℕ) (ht : t < 128) (hq : q < 4) where
  -- THE FIRST SEGMENT s
  module _ (s : ℕ) (z : Sized m) (hs : Opened m s) (e : heads_in m q t ≡ some s) where
    head_is : read m (queue_head t q) ≡ s
    head_is = link_word (read m (queue_head t q)) s (sym (head_at m q t hq ht) ∙ e)

    pub value_there : (w : ℕ) (r : List ℕ) → contents_in m s ≡ w ∷ r → (has_value m t q ≡ true) × (value_at m (read m (queue_head t q)) 0 ≡ w)
    unfolding has_value
    value_there w r f =
        let h = head_is in
        let l : s < 256 = number_below z hs in
        let v = first_value m s w r l f in
        let c : read m (count (read m (queue_head t q))) ≡ suc (length r) = ap (λ (x : ℕ). read m (count x)) h ∙ v.1 in (
          true_both (lt-ltb (read m (queue_head t q)) NL (omega (arith, h, l)))
              (ap not (ne_eqb (read m (count (read m (queue_head t q)))) 0 (λ d. omega (arith, c, d)))),
          ap (λ (x : ℕ). value_at m x 0) h ∙ v.0,
        )

    pub no_value : contents_in m s ≡ [] → has_value m t q ≡ false
    unfolding has_value
    no_value f =
        both_right_off _ (ap not (eq-eqb _ _ (ap (λ (x : ℕ). read m (count x)) head_is ∙ count_length m s (number_below z hs) ∙ ap length f)))

-- THE MARKS at which a view stands that a view can be reduced into, for marks of tasks
pub part_taken : (m : List ℕ) (q x : ℕ) → has_part m q x ≡ partTaken (λ t. uses (rights_of m t) q) x
unfolding has_part partTaken task_at markedTask
part_taken m q x = refl

pub view_stands : (m : List ℕ) (q x : ℕ) → q < 4 → x < 256
    → stands_at m q x ≡ viewStands (λ t. uses (rights_of m t) q) (view_in m q CHILDREN) x
unfolding stands_at viewStands
view_stands m q x hq hx =
    ap₂ (λ (a b : Bool). both a (either (ltb x 128) (either (eqb (x - 128) 0) b)))
    (part_taken m q x)
    (not_empty (view_of m q (x - 128) CHILDREN) ∙ ap occupied (sym (view_at_lem m q CHILDREN (x - 128) hq (omega arith) (omega (arith, hx)))))
