-- A run as a whole: part by part to its end, and from its first value on.
use mathlib.Core.Path.{◌≡◌, refl, ap, sym, ◌∙◌, subst}
use mathlib.Core.Bool.{Bool, true, false, not}
use mathlib.Core.List.{List, [], ◌∷◌}
use Prim.Native.Nat.{ℕ, suc, ◌-◌, ◌<◌, ◌≤◌}
use native.Mathlib.Omega.{arith}
use lib.Dec.{leb, ltb}
use lib.ListN.{length, get_or, take, drop, length-drop, take-append-drop}
use lib.Seq.{drop-cons, take-length, length-take-le}
use borrow.Author.Tests.{not-true, not-false, le-ltb, ltb-true, ltb-false, leb-true, le-leb}
use Rattle.spec_words.specs.Words.{pick, pass, halt, both, both_true, both_on, both_off, both_right_off, refuted}
use Rattle.spec_lists.specs.Maps.{last_of}
use Rattle.spec_layout.specs.Layout.{NL, USER, count, length_of, free_height, head, tail, read}
use Rattle.spec_rules.specs.Views.{view}
use Rattle.spec_answers.specs.declared.Answer.TheVariants.{Moved, Refused}
use Rattle.spec_answers.specs.Answers.{Outcome, outcome, words_of, when_moved}
use Rattle.spec_outcomes.specs.Segments.{stored_all, has_none_free}
use Rattle.spec_outcomes.specs.Views.{view_of, is_empty, tail_of, just_before}
use Rattle.spec_outcomes.specs.Push.{pushed_apart, pushed, pushed_all, capacity, ends_away, runs_out, pushed_run}
use Rattle.spec_outcomes.proofs.Keeps.{Keeps, keeps_pushed}
use Rattle.spec_outcomes.proofs.RunOfOne.{some_free, empty_none}
use Rattle.law_push_runs.specs.Pushable.{Pushable}
use Rattle.law_push_runs.specs.Runs.{pushed_words, words_append, Filled, ends_here, Next, fits, Starts, goes, stops, leaves_out, starts}
use Rattle.segments.specs.Runs.{Storable, fitting}
use Rattle.law_push_runs.specs.Ways.{tail_room}
use Rattle.core_push.proofs.Parts.{slice_rest, CanTake, takes, storable, into_run}
use Rattle.core_push.proofs.RunsOut.{empty_same, few_values}

-- THE LOOP: the words m are such that pushing what is left leads to what pushing the run leads to
pub record Going (t q : ℕ) (m₀ vs m rest : List ℕ) : Type 0 where
  pub filled : Filled t q m
  pub room : length rest ≤ capacity m t q
  pub words : pushed_words m₀ t q vs ≡ pushed_words m t q rest

module _ (t q : ℕ) (ht : t < 128) (hq : q < 4) where
  pub goes_on : {m₀ vs m m1 rest : List ℕ} {k : ℕ} → Going t q m₀ vs m rest → (0 < k) × (k ≤ length rest) × (m1 ≡ pushed_words m t q (take k rest))
      → Going t q m₀ vs m1 (take (length rest - k) (drop k rest))
  goes_on {m₀} {vs} {m} {m1} {rest} {k} g w =
      let e = slice_rest rest k in
      let a = w.1 in
      let b = ap length e ∙ length-drop k rest in
      let d = length-take-le k rest a in
      let r = g.room in
      let f = fits t q ht hq (take k rest) m m 0 g.filled (omega (arith, a, d, r)) in
      let h = f.less in
      let l = ap (λ (x : List ℕ). capacity x t q) w.2 in
      record {
        filled = subst (Filled t q) (sym w.2) f.filled;
        room = omega (arith, a, b, d, h, l, r);
        words =
            g.words
            ∙ ap (pushed_words m t q) (sym (take-append-drop k rest))
            ∙ words_append m t q (take k rest) (drop k rest)
            ∙ ap (λ (x : List ℕ). pushed_words x t q (drop k rest)) (sym w.2)
            ∙ ap (pushed_words m1 t q) (sym e);
      }

-- so few values are left that their bytes can be counted
pub few_left : (t q : ℕ) {m₀ vs m rest : List ℕ} {k : ℕ} → Going t q m₀ vs m rest → k ≤ length rest → k ≤ 16448
few_left t q {m₀} {vs} {m} {rest} {k} g l =
    let e = read m (tail USER t q) in
    let a = tail_room m t q e refl g.filled.local in
    let w = few_values m t q e (free_height m q) (length_of m e) g.filled.words refl refl in
    let b = w.0 in
    let c = w.1 in
    let r = g.room in
    omega (arith, a, b, c, l, r)

pub all_pushed : (t q : ℕ) {m₀ vs m rest : List ℕ} → Going t q m₀ vs m rest → length rest ≡ 0 → m ≡ pushed_words m₀ t q vs
all_pushed t q {m₀} {vs} {m} {rest} g z = sym (g.words ∙ go rest z)
  where
    go : (ws : List ℕ) → length ws ≡ 0 → pushed_words m t q ws ≡ m
    go [] e = unfold pushed_words in refl
    go (w ∷ ws) e = let y : ⊥ = omega (arith, e) in absurd y

-- THE RUN. A run of none
pub run_of_none : (m : List ℕ) (t q n : ℕ) (vs : List ℕ) → n ≡ length vs → n ≡ 0 → outcome (Moved 0) m ≡ pushed_run m t q vs
run_of_none m t q n [] en z = unfold pushed_run pushed_all runs_out in sym (pass _ (both_right_off _ (le-ltb (capacity m t q) 0 (omega arith))) refl)
run_of_none m t q n (v ∷ vs) en z = let y : ⊥ = omega (arith, en, z) in absurd y

-- the last value
last_is : (v : ℕ) (vs : List ℕ) → last_of v vs ≡ get_or (v ∷ vs) (length vs) 0
last_is v [] = refl
last_is v (w ∷ vs) = last_is w vs

pub last_value : (vs : List ℕ) → 0 < length vs → last_of 0 vs ≡ get_or vs (length vs - 1) 0
last_value [] l = let z : ⊥ = omega (arith, l) in absurd z
last_value (v ∷ vs) l = last_is v vs ∙ ap (λ (i : ℕ). get_or (v ∷ vs) i 0) (let z : length vs ≡ suc (length vs) - 1 = omega arith in z)

-- INTO THE TAIL SEGMENT e, which has room for all values
module _ (m : List ℕ) (t q : ℕ) {n e : ℕ} {b : Bool} (vs : List ℕ) (p : Pushable m t q) (ht : t < 128) (hq : q < 4) (en : n ≡ length vs) (some : n ≡ 0 → ⊥)
    (ee : e ≡ read m (tail USER t q)) (eb : b ≡ both (ltb e NL) (leb n (length_of m e - read m (count e)))) (f : b ≡ true) where
  here : Filled t q m
  here = record { words = p; local = let l = ltb-true e NL (both_true _ _ (sym eb ∙ f)).0 in omega (arith, ee, l) }

  pub can_store : Storable m e
  can_store = storable t q ht hq m here ee

  enough : length vs ≤ length_of m e - read m (count e)
  enough = let a = leb-true n _ (both_true _ _ (sym eb ∙ f)).1 in omega (arith, a, en)

  no_refusal : length vs ≤ capacity m t q → pushed_run m t q vs ≡ pushed_all m m t q 0 vs
  unfolding pushed_run runs_out
  no_refusal room = pass _ (both_right_off _ (le-ltb _ _ room)) refl

  pub all_stored : {k : ℕ} {l : List ℕ} → (k ≡ fitting m e (length vs)) × (l ≡ stored_all m e (take k vs))
      → outcome (Moved (get_or vs (n - 1) 0)) l ≡ pushed_run m t q vs
  all_stored {k} {l} w =
      let k_is : k ≡ length vs = (unfold fitting in let a = w.0 in let h = enough in omega (arith, a, h)) in
      let words : l ≡ pushed_words m t q vs
      = w.1 ∙ into_run t q ht hq m e k vs here ee w.0 ∙ ap (pushed_words m t q) (ap (λ (i : ℕ). take i vs) k_is ∙ take-length vs) in
      let r = tail_room m t q e (sym ee) (let h = here.local in omega (arith, ee, h)) in
      let room : length vs ≤ capacity m t q = (let h = enough in omega (arith, r, h)) in
      sym (no_refusal room
      ∙ (fits t q ht hq vs m m 0 here room).is
      ∙ ap (λ (x : ℕ). outcome (Moved x) (pushed_words m t q vs))
      (last_value vs (omega (arith, en, some)) ∙ ap (λ (i : ℕ). get_or vs (i - 1) 0) (sym en))
      ∙ ap (outcome (Moved (get_or vs (n - 1) 0))) (sym words))

module _ (m : List ℕ) (t q : ℕ) {n : ℕ} {b : Bool} (vs : List ℕ) (p : Pushable m t q) (ht : t < 128) (hq : q < 4) (en : n ≡ length vs)
    (eb : b ≡ runs_out m t q n) where
  out_same : b ≡ runs_out m t q (length vs)
  out_same = eb ∙ ap (runs_out m t q) en

  pub run_refused : b ≡ true → outcome (Refused 9) m ≡ pushed_run m t q vs
  unfolding pushed_run
  run_refused f = sym (halt _ _ (sym out_same ∙ f))

  module _ (f : b ≡ false) (some : n ≡ 0 → ⊥) where
    run_is : pushed_run m t q vs ≡ pushed_all m m t q 0 vs
    unfolding pushed_run
    run_is = pass _ (sym out_same ∙ f) refl

    pub many : 0 < length vs
    many = omega (arith, en, some)

    -- a view that does not end non-locally has room for the run
    room : ends_away (view_of m q t USER) ≡ false → length vs ≤ capacity m t q
    unfolding runs_out
    room e = ltb-false (capacity m t q) (length vs) (sym (both_on (ap not e)) ∙ sym out_same ∙ f)

    -- THE USER VIEW ENDS IN A SEGMENT
    module _ {e : ℕ} (ee : e ≡ read m (tail USER t q)) where
      module _ (local : e < NL) where
        filled : Filled t q m
        filled = record { words = p; local = omega (arith, ee, local) }

        pub can_go : (Filled t q m) × (t < 128) × (q < 4) × (length vs ≤ capacity m t q)
        can_go = (filled, ht, hq, room (ends_here t q ht hq filled))

        pub gone : {l : List ℕ} → l ≡ pushed_words m t q vs → outcome (Moved (get_or vs (n - 1) 0)) l ≡ pushed_run m t q vs
        gone {l} el =
            let h = room (ends_here t q ht hq filled) in
            sym (run_is
            ∙ (fits t q ht hq vs m m 0 filled h).is
            ∙ ap (λ (x : ℕ). outcome (Moved x) (pushed_words m t q vs)) (last_value vs many ∙ ap (λ (i : ℕ). get_or vs (i - 1) 0) (sym en))
            ∙ ap (outcome (Moved (get_or vs (n - 1) 0))) (sym el))

      -- IT DOES NOT: it is empty or ends non-locally
      module _ {h : ℕ} {c : Bool} (away : NL ≤ e) (eh : h ≡ read m (head USER t q)) (ec : c ≡ is_empty (view h e)) where
        same : c ≡ is_empty (view_of m q t USER)
        same = empty_same m t q n ee eh ec

        -- where the first push is refused with 2, so is the run
        refused : {l : List ℕ} → pushed m t q (get_or vs 0 0) ≡ outcome (Refused 2) l → outcome (Refused 2) m ≡ pushed_run m t q vs
        refused d = sym (run_is ∙ go vs many d)
          where
            go : (ws : List ℕ) {l : List ℕ} → 0 < length ws → pushed m t q (get_or ws 0 0) ≡ outcome (Refused 2) l
                → pushed_all m m t q 0 ws ≡ outcome (Refused 2) m
            go [] k d = let z : ⊥ = omega (arith, k) in absurd z
            go (w ∷ ws) k d = unfold pushed_all when_moved in ap (λ (x : Outcome). when_moved m x (λ y n. pushed_all m n t q y ws)) d

        pub ends_away_lem : not c ≡ true → outcome (Refused 2) m ≡ pushed_run m t q vs
        unfolding pushed view_of tail_of
        ends_away_lem g = refused (pass _ (sym same ∙ not-true _ g) (halt _ _ (le-leb NL _ (rw ee at away))))

        module _ (g : not c ≡ false) where
          empty : is_empty (view_of m q t USER) ≡ true
          empty = sym same ∙ not-false _ g

          free : has_none_free m q ≡ false
          free = refuted _ (λ d.
              let a = room (unfold ends_away in both_off _ (ap not empty)) in
              let z = empty_none m t q empty d in
              let k = many in
              omega (arith, a, z, k))

          pub can_take : CanTake m q
          can_take = takes m t q p (some_free m t q free)

          module _ {x : ℕ} (d : Bool) {l : List ℕ} (ex : x ≡ just_before m q t)
              (is : outcome (pick d (Moved (get_or vs 0 0)) (Refused 2)) l ≡ pushed_apart m t q (get_or vs 0 0) x) where
            first : pushed m t q (get_or vs 0 0) ≡ outcome (pick d (Moved (get_or vs 0 0)) (Refused 2)) l
            unfolding pushed
            first = halt _ _ empty ∙ pass _ free refl ∙ sym (is ∙ ap (pushed_apart m t q (get_or vs 0 0)) ex)

            pub left_out : not d ≡ true → outcome (Refused 2) l ≡ pushed_run m t q vs
            unfolding pick
            left_out k =
                let e : pushed m t q (get_or vs 0 0) ≡ outcome (Refused 2) l
                = first ∙ ap (λ (y : Bool). outcome (pick y (Moved (get_or vs 0 0)) (Refused 2)) l) (not-true d k) in
                ap (outcome (Refused 2)) (subst (Keeps m) e (keeps_pushed m t q (get_or vs 0 0))) ∙ refused e

            module _ (k : not d ≡ false) where
              moved : pushed m t q (get_or vs 0 0) ≡ outcome (Moved (get_or vs 0 0)) l
              unfolding pick
              moved = first ∙ ap (λ (y : Bool). outcome (pick y (Moved (get_or vs 0 0)) (Refused 2)) l) (not-false d k)

              -- what the first value leaves
              next : Next t q ht hq m (get_or vs 0 0)
              next = go (starts t q ht hq m (get_or vs 0 0) [] p)
                where
                  no : {A : Type 0} {j : ℕ} {w : List ℕ} → outcome (Moved (get_or vs 0 0)) l ≡ outcome (Refused j) w → A
                  no e = let y : ◌≡◌ {A = ℕ} 0 1 = cc in absurd (omega (arith, y))

                  go : Starts t q ht hq m (get_or vs 0 0) [] → Next t q ht hq m (get_or vs 0 0)
                  go (goes w) = w
                  go (stops e c) = no (sym moved ∙ e)
                  go (leaves_out e) = no (sym moved ∙ e)

              left : l ≡ words_of (pushed m t q (get_or vs 0 0))
              unfolding words_of
              left = sym (ap words_of moved)

              pub can_go_on : (Filled t q l) × (t < 128) × (q < 4) × (length (take (length vs - 1) (drop 1 vs)) ≤ capacity l t q)
              can_go_on =
                  let a = next.less in
                  let b = ap (λ (w : List ℕ). capacity w t q) left in
                  let c = room (unfold ends_away in both_off _ (ap not empty)) in
                  let e = ap length (slice_rest vs 1) ∙ length-drop 1 vs in
                  (subst (Filled t q) (sym left) next.filled, ht, hq, omega (arith, a, b, c, e))

              pub gone_on : {r : List ℕ} → r ≡ pushed_words l t q (take (length vs - 1) (drop 1 vs)) → outcome (Moved (get_or vs (n - 1) 0)) r ≡ pushed_run m t q vs
              gone_on {r} er =
                  let c = can_go_on in
                  let f = fits t q ht hq (drop 1 vs) m l (get_or vs 0 0) c.0 (rw slice_rest at c.3) in
                  sym (run_is
                  ∙ ap (pushed_all m m t q 0) parts
                  ∙ all_is
                  ∙ f.is
                  ∙ ap (λ (x : ℕ). outcome (Moved x) (pushed_words l t q (drop 1 vs)))
                  (ap (last_of 0) (sym parts) ∙ last_value vs many ∙ ap (λ (i : ℕ). get_or vs (i - 1) 0) (sym en))
                  ∙ ap (outcome (Moved (get_or vs (n - 1) 0))) (sym (er ∙ ap (pushed_words l t q) (slice_rest vs 1))))
                where
                  parts : vs ≡ get_or vs 0 0 ∷ drop 1 vs
                  parts = drop-cons vs 0 0 many

                  all_is : pushed_all m m t q 0 (get_or vs 0 0 ∷ drop 1 vs) ≡ pushed_all m l t q (get_or vs 0 0) (drop 1 vs)
                  all_is = unfold pushed_all when_moved in ap (λ (x : Outcome). when_moved m x (λ y n. pushed_all m n t q y (drop 1 vs))) moved
