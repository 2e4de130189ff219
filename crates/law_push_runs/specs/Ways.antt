-- THE THREE WAYS OF A PUSH: each takes one off the number of values that there is room for, and the next value can be pushed as well.
use Rattle.std.specs.Prelude.{◌≡◌, Bool, ℕ, suc, ◌+◌, ◌-◌, ◌*◌, ◌<◌, ◌≤◌, ltb}
use Rattle.std.proofs.Math.Path.{refl, ap, ap₂, sym, subst}
use Rattle.std.proofs.Common.{◌∙◌, arith, suc-mul, eq-eqb, ne_eqb, lt-ltb, ltb-true}
use Rattle.std.proofs.Math.Bool.{true, false, not, true≢false}
use mathlib.Core.List.{List}
use Rattle.std.proofs.Math.Dec.{eqb}
use Rattle.spec_words.specs.Words.{pick, pass, halt, both, both_true, both_on, both_off, both_right_on, both_right_off, true_both, either}
use Rattle.spec_lists.specs.Counting.{one, one_true, one_false}
use Rattle.spec_layout.specs.Layout.{Field, header, NL, USER, free_segment, value, task, first, count, next, length_of, Opened, free_height}
use Rattle.spec_layout.specs.Layout.{head, tail, address, read, write}
use Rattle.spec_layout.proofs.Frame.{read_same, size_write}
use Rattle.spec_rules.specs.Views.{View, view}
use Rattle.spec_outcomes.specs.Segments.{stored, has_none_free, taken, linked}
use Rattle.spec_outcomes.specs.Views.{view_of, is_empty, head_of, tail_of, reducible, frees, set_view, joined, task_at, kind_at, just_before}
use Rattle.spec_outcomes.specs.Push.{link_frees, capacity}
use Rattle.spec_outcomes.proofs.RunOfOne.{empty_room, filled_room}
use Rattle.law_maps.specs.Finish.{kind_below}
use Rattle.law_maps.specs.Kept.{read_away}
use Rattle.law_push_runs.specs.Pushable.{Pushable, SoundBefore}
use Rattle.law_push_runs.specs.NewTail.{tailed, s, rest, new_low, taken_away, tail_pushable, tail_capacity}
use Rattle.law_push_runs.specs.Grown.{Grown, begins, task_write, link_write, name_write, release, grown_size}

-- what is left when a segment of l places more is counted with one value in it
pub one_less : (g l : ℕ) → 0 < l → l - 1 + g * l + 1 ≡ suc g * l
one_less g l h = let e = suc-mul g l in omega (arith, e, h)

-- the room of a user view that ends in segment e
pub tail_room : (m : List ℕ) (t q e : ℕ) → read m (tail USER t q) ≡ e → e < NL
    → capacity m t q ≡ length_of m e - read m (count e) + free_height m q * length_of m e
unfolding view_of tail_of
tail_room m t q e is local = filled_room m t q (tailed m t q e is (omega (arith, local))) ∙ rw is refl

module _ (m : List ℕ) (t q v : ℕ) (p : Pushable m t q) (ht : t < 128) (hq : q < 4) where
  -- INTO THE TAIL SEGMENT e
  module _ (e : ℕ) (is : read m (tail USER t q) ≡ e) (local : e < NL) (room : read m (count e) < length_of m e) where
    into_away : (g : Field) → address g < 8192 → (address g ≡ address (count e) → ⊥) → read (stored m e v) g ≡ read m g
    unfolding stored address
    into_away g l n = read_away _ (count e) g _ n ∙ read_away m (value _) g v (λ d. omega (arith, d, l))

    below : e < 256
    below = let a = (p.user (omega (arith, is, local))).0 in let b = p.number in omega (arith, a, b, is)

    pub into_tail : read (stored m e v) (tail USER t q) ≡ e
    unfolding address
    into_tail = into_away (tail USER t q) (omega (arith, ht, hq)) (let b = below in λ d. omega (arith, d, b)) ∙ is

    into_header : (k : ℕ) → k < 64 → read (stored m e v) (header k) ≡ read m (header k)
    unfolding address
    into_header k l = into_away (header k) (omega (arith, l)) (λ d. omega (arith, d, l))

    pub into_count : read (stored m e v) (count e) ≡ read m (count e) + 1
    unfolding stored
    into_count = read_same _ (count e) _ (size_write m (value _) v ∙ p.words) (below, omega arith)

    pub into_length : length_of (stored m e v) e ≡ length_of m e
    into_length = into_header 0 (omega arith)

    pub into_pushable : Pushable (stored m e v) t q
    unfolding stored address
    into_pushable =
        record {
          words = size_write _ (count e) _ ∙ size_write m (value _) v ∙ p.words;
          lengths = λ x. rw (into_header 0 (omega arith)) (p.lengths x);
          number = rw (into_header 1 (omega arith)) p.number;
          fit = rw (into_header 0 (omega arith), into_header 1 (omega arith)) p.fit;
          few = rw (into_header 2 (omega arith)) p.few;
          free = λ i l.
              let h = into_header 2 (omega arith) in
              let f = p.few in
              let a = p.free i (omega (arith, l, h)) in
              let b = into_away (free_segment i) (omega (arith, l, h, f)) (λ d. omega (arith, d, l, h, f)) in
              let c = into_header 1 (omega arith) in
              omega (arith, a, b, c);
          user = λ l. rw into_tail tail_sound;
          before = λ d. absurd (true≢false (sym d ∙ tailed (stored m e v) t q e into_tail (omega (arith, local))));
        }
      where
        tail_sound : (Opened (stored m e v) e) × (read (stored m e v) (first e) < length_of (stored m e v) e)
            × (read (stored m e v) (count e) ≤ length_of (stored m e v) e)
        tail_sound = unfold address in
            let w = rw is at (p.user (omega (arith, is, local))) in
            let o = w.0 in
            let f = w.1 in
            let a = into_header 0 (omega arith) in
            let b = into_header 1 (omega arith) in
            let c = into_away (first e) (let l = below in omega (arith, l)) (λ d. omega (arith, d)) in
            let d = into_count in
            (omega (arith, o, b), omega (arith, f, a, c), omega (arith, d, a, room))

    pub into_capacity : capacity (stored m e v) t q + 1 ≡ capacity m t q
    into_capacity =
        let a = tail_room (stored m e v) t q e into_tail local in
        let b = tail_room m t q e is local in
        let c = into_count in
        let d = into_header 0 (omega arith) in
        let f : free_height (stored m e v) q * length_of (stored m e v) e ≡ free_height m q * length_of m e
        = ap₂ (λ (x y : ℕ). x * y) (into_header 2 (omega arith)) d in
        omega (arith, a, b, c, d, f, room)

  module _ (some : 0 < free_height m q) where
    abbrev new : ℕ
    new = s m t q v p some

    abbrev low : ℕ
    low = rest m t q v p some

    -- BEHIND A FULL TAIL SEGMENT e
    module _ (e : ℕ) (is : read m (tail USER t q) ≡ e) (local : e < NL) (full : length_of m e ≤ read m (count e)) where
      abbrev pub after_behind : List ℕ
      after_behind = write (write (taken m q v) (next e) new) (tail USER t q) new

      grown_behind : Grown m t q v p some after_behind low
      grown_behind = task_write m t q v p some t _ new (link_write m t q v p some e new (begins m t q v p some))

      pub end_behind : read after_behind (tail USER t q) ≡ new
      end_behind =
          read_same _ (tail USER t q) new (grown_size m t q v p some (link_write m t q v p some e new (begins m t q v p some)))
          (ht, omega (arith, hq))

      pub behind_pushable : Pushable after_behind t q
      behind_pushable =
          let g = grown_behind in tail_pushable m t q v p some after_behind low g.kept g.high g.most g.more end_behind

      pub behind_capacity : capacity after_behind t q + 1 ≡ capacity m t q
      behind_capacity =
          let g = grown_behind in
          ap (λ (x : ℕ). x + 1) (tail_capacity m t q v p some after_behind low g.kept g.high g.most g.more end_behind)
          ∙ one_less low (length_of m new) (p.lengths new).0
          ∙ sym was
        where
          was : capacity m t q ≡ suc low * length_of m new
          was =
              let a = tail_room m t q e is local in
              let b : suc low * length_of m new ≡ free_height m q * length_of m e
              = ap (λ (x : ℕ). x * length_of m e) (let z : suc low ≡ free_height m q = omega (arith, some) in z) in
              omega (arith, a, b, full)

    -- FOR AN EMPTY USER VIEW, the new head reduced into the view just before
    module _ (empty : is_empty (view_of m q t USER) ≡ true) where
      before : SoundBefore m t q
      before = p.before empty

      abbrev y : ℕ
      y = task_at (just_before m q t)

      abbrev k : ℕ
      k = kind_at (just_before m q t)

      abbrev h : ℕ
      h = read m (head k y q)

      abbrev e : ℕ
      e = read m (tail k y q)

      module _ (fits : reducible (view h e) (view new NL) ≡ true) where
        abbrev pub after_apart : List ℕ
        after_apart = set_view (joined (taken m q v) q y k (view new NL)) q t USER (view NL new)

        few_kinds : k < 3
        few_kinds = kind_below (just_before m q t)

        view_word : (i : ℕ) → i < 48 → read (taken m q v) (task y i) ≡ read m (task y i)
        unfolding address
        view_word i l =
            let a = before.0 in
            let b = new_low m t q v p some in
            taken_away m t q v p some (task y i) (omega (arith, a, l)) (λ d. omega (arith, d)) (λ j g d. omega (arith, d, b, g))

        same_view : view_of (taken m q v) q y k ≡ view h e
        unfolding view_of
        same_view =
            let a = few_kinds in
            ap₂ view (view_word (20 + k * 4 + q) (omega (arith, a, hq))) (view_word (32 + k * 4 + q) (omega (arith, a, hq)))

        new_view : is_empty (view new NL) ≡ false
        unfolding is_empty
        new_view = both_right_off _ refl

        new_local : ltb new NL ≡ true
        new_local = lt-ltb new NL (let a = new_low m t q v p some in omega (arith, a))

        -- a local tail is another segment than the new one
        apart_from : is_empty (view h e) ≡ false → e < NL → e ≡ new → ⊥
        unfolding reducible either tail_of head_of
        apart_from a l d =
            let f = sym (pass _ a (pass _ new_view (pass _ (ne_eqb e NL (λ z. omega (arith, z, l))) refl))) ∙ fits in
            true≢false (sym (both_true _ _ f).1 ∙ ap not (eq-eqb e new d))

        freed : Bool
        freed = frees m (view h e) (view new NL)

        is_freed : (a l c : Bool) → is_empty (view h e) ≡ a → ltb e NL ≡ l → eqb (read m (count e)) 0 ≡ c → freed ≡ both (not a) (both l c)
        unfolding freed frees tail_of head_of
        is_freed a l c ea el ec =
            ap₂ both (ap₂ both (ap not ea) (ap not new_view)) (ap₂ both (ap₂ both el new_local) ec) ∙ go a l c
          where
            go : (a l c : Bool) → both (both (not a) (not false)) (both (both l true) c) ≡ both (not a) (both l c)
            go a l c = unfold both in
                ap₂ (λ (x y : Bool). pick x y false) (both_right_on (not a) refl) (ap (λ (x : Bool). pick x c false) (both_right_on l refl))

        -- the count of the tail as the segment taken leaves it
        count_same : is_empty (view h e) ≡ false → e < NL → read (taken m q v) (count e) ≡ read m (count e)
        unfolding address
        count_same a l =
            let o = before.1 l in
            let b = p.number in
            taken_away m t q v p some (count e) (omega (arith, o, b)) (λ d. omega (arith, d))
            (λ j g d. apart_from a l (omega (arith, d, g)))

        abbrev Now : List ℕ → Bool → Type 0
        Now n b = Grown m t q v p some n (low + one b)

        at_one : {n : List ℕ} → Grown m t q v p some n (low + 1) → Now n true
        at_one {n} g =
            subst (λ (x : ℕ). Grown m t q v p some n x) (let a = one_true {b = true} refl in let z : low + 1 ≡ low + one true = omega (arith, a) in z) g

        at_low : {n : List ℕ} {b : Bool} → b ≡ false → Grown m t q v p some n low → Now n b
        at_low {n} f g = subst (λ (x : ℕ). Grown m t q v p some n x) (let a = one_false f in let z : low ≡ low + one _ = omega (arith, a) in z) g

        linked_is : (c : Bool) → is_empty (view h e) ≡ false → e < NL → eqb (read m (count e)) 0 ≡ c
            → Now (linked (taken m q v) q e new) c
        unfolding linked
        linked_is true a l f =
            subst (λ (n : List ℕ). Now n true) (sym (halt _ _ (ap (λ (x : ℕ). eqb x 0) (count_same a l) ∙ f)))
            (at_one (release m t q v p some e (apart_from a l) (before.1 l)
            (name_write m t q v p some e new (link_write m t q v p some e new (begins m t q v p some)))))
        linked_is false a l f =
            subst (λ (n : List ℕ). Now n false) (sym (pass _ (ap (λ (x : ℕ). eqb x 0) (count_same a l) ∙ f) refl))
            (at_low refl (link_write m t q v p some e new (begins m t q v p some)))

        -- THE REDUCTION, by cases
        reduces : (a l : Bool) → is_empty (view h e) ≡ a → ltb e NL ≡ l
            → Now (pick (is_empty (view h e)) (set_view (taken m q v) q y k (view new NL))
            (write (pick (both (ltb e NL) (ltb new NL)) (linked (taken m q v) q e new) (taken m q v)) (tail k y q) NL)) freed
        unfolding set_view
        reduces true l ea el =
            subst (λ (n : List ℕ). Now n freed) (sym (halt _ _ ea))
            (at_low (is_freed true l _ ea el refl ∙ both_off _ refl)
            (task_write m t q v p some y _ NL (task_write m t q v p some y _ new (begins m t q v p some))))
        reduces false true ea el =
            subst (λ (n : List ℕ). Now n freed)
            (sym (pass _ ea (ap (λ (n : List ℕ). write n (tail k y q) NL) (halt _ _ (true_both el new_local)))))
            (task_write m t q v p some y _ NL
            (subst (λ (b : Bool). Now (linked (taken m q v) q e new) b) (sym (is_freed false true _ ea el refl ∙ both_on refl ∙ both_on refl))
            (linked_is _ ea (ltb-true e NL el) refl)))
        reduces false false ea el =
            subst (λ (n : List ℕ). Now n freed)
            (sym (pass _ ea (ap (λ (n : List ℕ). write n (tail k y q) NL) (pass _ (both_off (ltb new NL) el) refl))))
            (at_low (is_freed false false _ ea el refl ∙ both_on refl ∙ both_off _ refl) (task_write m t q v p some y _ NL (begins m t q v p some)))

        grown_joined : Now (joined (taken m q v) q y k (view new NL)) freed
        unfolding joined tail_of head_of
        grown_joined =
            subst (λ (n : List ℕ). Now n freed)
            (sym (pass _ new_view (ap (λ (a : View). pick (is_empty a) (set_view (taken m q v) q y k (view new NL))
            (write (pick (both (ltb (tail_of a) NL) (ltb new NL)) (linked (taken m q v) q (tail_of a) new) (taken m q v)) (tail k y q) NL)) same_view)))
            (reduces _ _ refl refl)

        grown_apart : Now after_apart freed
        unfolding set_view
        grown_apart = task_write m t q v p some t _ new (task_write m t q v p some t _ NL grown_joined)

        pub end_apart : read after_apart (tail USER t q) ≡ new
        unfolding set_view
        end_apart =
            read_same _ (tail USER t q) new (size_write _ (head USER t q) NL ∙ grown_size m t q v p some grown_joined) (ht, omega (arith, hq))

        pub apart_pushable : Pushable after_apart t q
        apart_pushable =
            let g = grown_apart in tail_pushable m t q v p some after_apart (low + one freed) g.kept g.high g.most g.more end_apart

        pub apart_capacity : capacity after_apart t q + 1 ≡ capacity m t q
        apart_capacity =
            let g = grown_apart in
            ap (λ (x : ℕ). x + 1) (tail_capacity m t q v p some after_apart (low + one freed) g.kept g.high g.most g.more end_apart)
            ∙ one_less (low + one freed) (length_of m new) (p.lengths new).0
            ∙ ap (λ (x : ℕ). x * length_of m new) (let z : suc (low + one freed) ≡ free_height m q + one freed = omega (arith, some) in z)
            ∙ sym was
          where
            was : capacity m t q ≡ (free_height m q + one freed) * length_of m new
            was = unfold freed has_none_free in
                empty_room m t q empty (ne_eqb (free_height m q) 0 (λ z. omega (arith, z, some)))
                ∙ (unfold link_frees view_of in refl)
