-- For each of the three rules: it is false after the calls of its case, and the calls get the answers that stand there.
use Rattle.std.specs.Prelude.{◌≡◌, true, false, List, [], ℕ, ◌<◌}
use Rattle.std.proofs.Math.Path.{refl}
use Rattle.std.proofs.Common.{ap, ap₂, sym, ◌∙◌, inr, arith}
use Rattle.std.proofs.lemmas.Bool.{false≢true}
use Rattle.std.proofs.Math.Option.{Option, none, some}
use Rattle.spec_words.specs.Words.{pick, both}
use Rattle.spec_layout.specs.Layout.{NONE, NL, STATUS, UNFINISHED, USER, RIGHT, task, next, rights_of, queue_head, head, tail, read}
use Rattle.spec_tree.specs.Rights.{bits, pushes, pops}
use Rattle.spec_rules.specs.Views.{view}
use Rattle.spec_rules.specs.Contents.{decode}
use Rattle.spec_rules.specs.Rules.{Holder}
use Rattle.spec_cases.specs.Rows.{Case}
use Rattle.spec_outcomes.specs.Views.{view_of, is_empty}
use Rattle.spec_outcomes.specs.Table.{lent, tried, is_some, computed, computes}
use Rattle.law_gaps.specs.Line.{nonlocal, local, extent}
use Rattle.law_links.specs.Linked.{word_is}
use Rattle.law_maps.specs.Meaning.{optional, end_of, extent_of, view_in}
use Rattle.law_maps.specs.Reads.{next_at, head_at, view_at_lem}
use Rattle.law_maps.specs.Free.{optional_none}
use Rattle.law_paper_rules.specs.Order.{queue, user, right, place}
use Rattle.law_paper_rules.specs.Words.{head_only}
use Rattle.law_paper_rules.specs.Counterexamples.{Rule6, Rule7, Rule8, seen, younger_pushes, younger_finished, one_popper, shared, returned, handed, shared_words, returned_words, handed_words}

seen_after : (f : List ℕ → List ℕ) (c : Case) (m : List ℕ) (l : List ℕ) → tried c lent ≡ some m → seen f (computed c lent) ≡ l → f m ≡ l
unfolding seen
seen_after f c m l e h = ap (seen f) (sym (computes c lent ∙ e)) ∙ h

-- the calls of the case get the answers that stand there
moves : (c : Case) → is_some (computed c lent) ≡ true → (m : List ℕ) × (tried c lent ≡ some m)
moves c h = go (tried c lent) (ap is_some (sym (computes c lent)) ∙ h)
  where
    go : (o : Option (List ℕ)) → is_some o ≡ true → (m : List ℕ) × (o ≡ some m)
    go none e = unfold is_some in absurd (false≢true e)
    go (some m) e = (m, refl)

-- a view by its two words, and an unfinished task by its status
view_of_lem : (m : List ℕ) (k t h e : ℕ) → k < 3 → t < 128 → read m (head k t 0) ≡ h → read m (tail k t 0) ≡ e → view_in m 0 k t ≡ extent_of (view h e)
unfolding view_of
view_of_lem m k t h e lk lt i j = view_at_lem m 0 k t (omega arith) lk lt ∙ ap₂ (λ (x y : ℕ). extent_of (view x y)) i j

busy : (m : List ℕ) (t : ℕ) → t < 128 → read m (task t STATUS) ≡ UNFINISHED → Holder (decode m) t
busy m t l e = inr (l, word_is m t STATUS ∙ e)

pub rule_6_false : (m : List ℕ) → tried younger_pushes lent ≡ some m → Rule6 m 0 → ⊥
rule_6_false m e rule =
    let l = seen_after shared younger_pushes m _ e shared_words in
    let hr : read m (head RIGHT 1 0) ≡ 4 = cc in
    let tr : read m (tail RIGHT 1 0) ≡ NL = cc in
    let hu : read m (head USER 2 0) ≡ NL = cc in
    let tu : read m (tail USER 2 0) ≡ 4 = cc in
    let s1 : read m (task 1 STATUS) ≡ UNFINISHED = cc in
    let s2 : read m (task 2 STATUS) ≡ UNFINISHED = cc in
    let r1 : rights_of m 1 ≡ 1 = cc in
    let w = rule (right 1) (user 2) 4 nonlocal nonlocal (busy m 1 (omega arith) s1) (busy m 2 (omega arith) s2)
    (view_of_lem m RIGHT 1 4 NL (omega arith) (omega arith) hr tr ∙ head_four) (view_of_lem m USER 2 NL 4 (omega arith) (omega arith) hu tu ∙ tail_four)
    (λ z. omega (arith, z)) in
    false≢true (sym no_pop ∙ ap (λ (x : ℕ). pops x 0) (sym r1) ∙ w.0)
  where
    head_four : extent_of (view 4 NL) ≡ extent (local 4) nonlocal
    head_four = unfold extent_of is_empty end_of pick both in refl

    tail_four : extent_of (view NL 4) ≡ extent nonlocal (local 4)
    tail_four = unfold extent_of is_empty end_of pick both in refl

    no_pop : pops 1 0 ≡ false
    no_pop = unfold pops bits pick in refl

pub rule_6_case : (m : List ℕ) × (tried younger_pushes lent ≡ some m)
rule_6_case = moves younger_pushes (unfold computed is_some in refl)

pub rule_7_false : (m : List ℕ) → tried younger_finished lent ≡ some m → Rule7 m 0 → ⊥
rule_7_false m e rule =
    let l = seen_after returned younger_finished m _ e returned_words in
    let hr : read m (head RIGHT 1 0) ≡ 4 = cc in
    let tr : read m (tail RIGHT 1 0) ≡ 4 = cc in
    let n4 : read m (next 4) ≡ NONE = cc in
    let s1 : read m (task 1 STATUS) ≡ UNFINISHED = cc in
    let v = view_of_lem m RIGHT 1 4 4 (omega arith) (omega arith) hr tr ∙ both_four in
    let u = busy m 1 (omega arith) s1 in
    let w = rule (right 1) (right 1) tt
    (record {
      start = 4;
      rest = [];
      linked = next_at m 4 (omega arith) ∙ ap optional n4 ∙ optional_none;
      head_end = local 4;
      tail_end = local 4;
      head_in = v;
      tail_in = v;
      head_task = u;
      tail_task = u;
    }) in
    omega (arith, w)
  where
    both_four : extent_of (view 4 4) ≡ extent (local 4) (local 4)
    both_four = unfold extent_of is_empty end_of pick both in refl

pub rule_7_case : (m : List ℕ) × (tried younger_finished lent ≡ some m)
rule_7_case = moves younger_finished (unfold computed is_some in refl)

pub rule_8_false : (m : List ℕ) → tried one_popper lent ≡ some m → Rule8 m 0 → ⊥
rule_8_false m e rule =
    let l = seen_after handed one_popper m _ e handed_words in
    let hq : read m (queue_head 1 0) ≡ 0 = cc in
    let hu : read m (head USER 1 0) ≡ NL = cc in
    let tu : read m (tail USER 1 0) ≡ 0 = cc in
    let n0 : read m (next 0) ≡ NONE = cc in
    let s1 : read m (task 1 STATUS) ≡ UNFINISHED = cc in
    let r1 : rights_of m 1 ≡ 2 = cc in
    let pq : place m (queue 1) ≡ 2 = cc in
    let pu : place m (user 1) ≡ 4 = cc in
    let u = busy m 1 (omega arith) s1 in
    let w = rule 1 (user 1)
    (record {
      start = 0;
      rest = [];
      linked = next_at m 0 (omega arith) ∙ ap optional n0 ∙ optional_none;
      head_end = nonlocal;
      tail_end = nonlocal;
      head_in = ap head_only (head_at m 0 1 (omega arith) (omega arith) ∙ ap optional hq ∙ zero_there);
      tail_in = view_of_lem m USER 1 NL 0 (omega arith) (omega arith) hu tu ∙ tail_zero;
      head_task = u;
      tail_task = u;
    })
    (ap (λ (x : ℕ). both (pushes x 0) (pops x 0)) r1 ∙ pop_only) in
    omega (arith, w, pq, pu)
  where
    zero_there : optional 0 ≡ some 0
    zero_there = unfold optional pick in refl

    tail_zero : extent_of (view NL 0) ≡ extent nonlocal (local 0)
    tail_zero = unfold extent_of is_empty end_of pick both in refl

    pop_only : both (pushes 2 0) (pops 2 0) ≡ false
    pop_only = unfold pushes pops bits pick both in refl

pub rule_8_case : (m : List ℕ) × (tried one_popper lent ≡ some m)
rule_8_case = moves one_popper (unfold computed is_some in refl)
