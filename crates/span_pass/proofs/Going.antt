-- A task goes on: by its effect, at a time by what it waited for.
use mathlib.Core.Path.{◌≡◌, refl, ap, ap₂, sym, ◌∙◌, subst}
use mathlib.Core.Bool.{true, false}
use mathlib.Core.List.{List}
use mathlib.Core.Option.{Option}
use Prim.Native.Nat.{ℕ, zero, suc, ◌+◌, ◌≤◌, max}
use Rattle.std.proofs.lemmas.Bool.Decides.{nat_tests}
use native.Mathlib.Omega.{arith}
use lib.ListN.{length}
use borrow.Author.Tests.{lt-ltb, le-ltb}
use Rattle.spec_words.specs.Words.{load, store, pick, halt, pass}
use Rattle.spec_line.specs.Later.{later}
use Rattle.spec_job.specs.Operations.{Operation, spawn, sync}
use Rattle.spec_job.specs.Effects.{sum, effect}
use Rattle.spec_simulate.specs.Ticks.{ticks_for}
use Rattle.spec_span.specs.Kinds.{awaits_children, looks_in}
use Rattle.spec_span.specs.Pass.{task_at, POSITION, REGISTER, OWN, POPPING, front_of, front_time, ready_at, gone_on, queued}
use Rattle.spec_span.specs.Pass.{Stood}
use Rattle.spec_span.specs.Pass.Stood.{stood}
use Rattle.job_effect.specs.declared.Made.{Made}
use Rattle.job_effect.specs.Made.{found_of, coded}
use Rattle.span_words.specs.declared.Seen.{Seen}
use Rattle.span_words.specs.declared.Standing.{Standing}
use Rattle.span_words.specs.Words.{Looks, Holds}
use Rattle.span_pass.specs.Steps.{Went, Unlooked, Looking, own_time, joined_time, effect_of, done_at, step_with, same, takes, Steps, spawn_with}
use Rattle.span_pass.proofs.Held.{holds_gone, holds_queued, holds_unqueued}

pub gone : (table w : List ℕ) (h : Standing) (o : Operation) (e : Made) (ready : ℕ) {a t : ℕ} {w1 w2 w3 : List ℕ} → Holds w h
    → a ≡ ticks_for table o → t ≡ sum ready a → w1 ≡ store w (task_at h.depth POSITION) e.next
    → w2 ≡ store w1 (task_at h.depth REGISTER) e.register → w3 ≡ store w2 (task_at h.depth OWN) t
    → Went table w h o e ready
    (record { depth = h.depth; procedure = h.procedure; position = e.next; register = e.register; own = t; older = h.older; time = t }) w3
gone table w h o e ready {t = t} {w3 = w3} a ek et e1 e2 e3 =
    record {
      time = et ∙ ap (sum ready) ek;
      deep = refl;
      words = all;
      holds =
          subst
          (λ (l : List ℕ). Holds l
          (record { depth = h.depth; procedure = h.procedure; position = e.next; register = e.register; own = t; older = h.older; time = t })) (sym all)
          (holds_gone w h e.next e.register t a);
    }
  where
    all : w3 ≡ store (store (store w (task_at h.depth POSITION) e.next) (task_at h.depth REGISTER) e.register) (task_at h.depth OWN) t
    all =
        e3
        ∙ ap (λ (l : List ℕ). store l (task_at h.depth OWN) t) (e2 ∙ ap (λ (l : List ℕ). store l (task_at h.depth REGISTER) e.register) e1)

-- WHAT A STEP WAITS FOR, by the kind of its operation
pub max_later : (a b : ℕ) (x : ℕ) → x ≡ max a b → x ≡ later a b
unfolding later pick
max_later a b x e = grind (arith, nat_tests)

later_none : (a : ℕ) → later a 0 ≡ a
unfolding later
later_none a = pass _ (le-ltb a 0 (omega arith)) refl

none_later : (b : ℕ) → later 0 b ≡ b
unfolding later
none_later zero = pass _ (le-ltb 0 0 (omega arith)) refl
none_later (suc b) = halt _ _ (lt-ltb 0 (suc b) (omega arith))

module _ (w : List ℕ) (d : ℕ) (o : Operation) (q : ℕ) where
  ready_alone : awaits_children o ≡ false → looks_in o ≡ false → own_time w d ≡ ready_at w d o q
  unfolding ready_at own_time
  ready_alone a b = sym (ap (later _) (ap₂ later (pass _ a refl) (pass _ b refl) ∙ later_none 0) ∙ later_none _)

  ready_joined : awaits_children o ≡ true → looks_in o ≡ false → joined_time w d ≡ ready_at w d o q
  unfolding ready_at own_time joined_time
  ready_joined a b = sym (ap (later _) (ap₂ later (halt _ _ a) (pass _ b refl) ∙ later_none _))

  ready_looking : awaits_children o ≡ false → looks_in o ≡ true
      → later (own_time w d) (later (load w (task_at d (POPPING + q))) (front_time w q)) ≡ ready_at w d o q
  unfolding ready_at own_time
  ready_looking a b = sym (ap (later _) (ap₂ later (pass _ a refl) (halt _ _ b) ∙ none_later _))

own_is : (w : List ℕ) (h : Standing) {b : ℕ} → Holds w h → b ≡ later h.own h.older → b ≡ own_time w h.depth
unfolding own_time
own_is w h a e = e ∙ ap₂ later a.own a.older

-- THE TASK HAS GONE ON: the time, the effect's value and the words are as the definition has them.
record Moves (table w : List ℕ) (h : Standing) (o : Operation) (q x : ℕ) (e : Made) (n : Standing) (w1 : List ℕ) : Type 0 where
  pub time : n.time ≡ done_at table w h o q
  pub value : e.value ≡ (effect_of w h o q x).value
  pub words : w1 ≡ gone_on w h.depth (effect_of w h o q x) (done_at table w h o q)
  pub deep : n.depth ≡ h.depth
  pub holds : Holds w1 n

module _ (table w : List ℕ) (h : Standing) (o : Operation) (q x : ℕ) (e : Made) (n : Standing) (w1 : List ℕ) where
  moved : {ready : ℕ} → ready ≡ ready_at w h.depth o q → e ≡ coded (effect_of w h o q x) → Went table w h o e ready n w1
      → Moves table w h o q x e n w1
  moved {ready} er ee went =
      record { time = time; value = unfold coded in ap (λ (m : Made). m.value) ee; words = went.words ∙ words; deep = went.deep; holds = went.holds }
    where
      time : n.time ≡ done_at table w h o q
      time = went.time ∙ ap (λ (u : ℕ). sum u (ticks_for table o)) er

      written : Made → ℕ → List ℕ
      written m t = store (store (store w (task_at h.depth POSITION) m.next) (task_at h.depth REGISTER) m.register) (task_at h.depth OWN) t

      words : written e n.time ≡ gone_on w h.depth (effect_of w h o q x) (done_at table w h o q)
      words = unfold gone_on coded in ap₂ written ee time

  stepped : (f : List ℕ → ℕ → ℕ → ℕ → List ℕ) {w2 : List ℕ} → Moves table w h o q x e n w1 → w2 ≡ f w1 q e.value n.time → Holds w2 n
      → Steps w2 n (step_with f table w h o q x)
  stepped f {w2} m is a = record { here = same_stood; holds = a }
    where
      W : List ℕ
      W = gone_on w h.depth (effect_of w h o q x) (done_at table w h o q)

      value : ℕ
      value = (effect_of w h o q x).value

      same_stood : stood w2 n.depth n.time ≡ step_with f table w h o q x
      same_stood =
          unfold step_with in
          ap₂ (λ (l : List ℕ) (d : ℕ). stood l d n.time) is m.deep
          ∙ ap (λ (l : List ℕ). stood (f l q e.value n.time) h.depth n.time) m.words
          ∙ ap (λ (v : ℕ). stood (f W q v n.time) h.depth n.time) m.value
          ∙ ap (λ (t : ℕ). stood (f W q value t) h.depth t) m.time

  -- by an operation that waits for no child and looks in no queue
  module _ {b : ℕ} (f : Option ℕ) (u : Unlooked o) (a : Holds w h) (eb : b ≡ later h.own h.older)
      (ee : e ≡ coded (effect o h.position h.register x f)) (went : Went table w h o e b n w1) where
    alone : Moves table w h o q x e n w1
    alone =
        moved (own_is w h a eb ∙ ready_alone w h.depth o q u.alone u.blind)
        (ee ∙ ap coded (u.ignores h.position h.register x f (front_of w q))) went

    pub moves_alone : Steps w1 n (step_with same table w h o q x)
    moves_alone = stepped same alone refl went.holds

    pub pushes_alone : {w2 : List ℕ} → w2 ≡ queued w1 q e.value n.time → length w2 ≡ length w1 → Steps w2 n (step_with queued table w h o q x)
    pushes_alone is long = stepped queued alone is (holds_queued w1 n q e.value n.time is long went.holds)

  -- by one that looks
  module _ {b : ℕ} {l : Seen} (u : Looking o) (a : Holds w h) (eb : b ≡ later h.own h.older) (look : Looks w h.depth q b l)
      (ee : e ≡ coded (effect o h.position h.register x (found_of l.front)))
      (went : Went table w h o e l.time n w1) where
    looking : Moves table w h o q x e n w1
    looking =
        moved
        (look.ready
        ∙ ap (λ (c : ℕ). later c (later (load w (task_at h.depth (POPPING + q))) (front_time w q))) (own_is w h a eb)
        ∙ ready_looking w h.depth o q u.alone u.looks)
        (ee ∙ ap (λ (f : Option ℕ). coded (effect o h.position h.register x f)) look.front) went

    pub looks_only : Steps w1 n (step_with same table w h o q x)
    looks_only = stepped same looking refl went.holds

    pub looks_takes : {w2 : List ℕ} → w2 ≡ takes w1 q e.value n.time → length w2 ≡ length w1 → Steps w2 n (step_with takes table w h o q x)
    looks_takes is long = stepped takes looking is (holds_unqueued w1 n q is long went.holds)

-- by a sync
pub syncs : (table w : List ℕ) (h : Standing) (q x : ℕ) (e : Made) (n : Standing) (w1 : List ℕ) {b : ℕ} (f : Option ℕ) → b ≡ joined_time w h.depth
    → e ≡ coded (effect sync h.position h.register x f) → Went table w h sync e b n w1 → Steps w1 n (step_with same table w h sync q x)
syncs table w h q x e n w1 f eb ee went =
    stepped table w h sync q x e n w1 same
    (moved table w h sync q x e n w1 (eb ∙ ready_joined w h.depth sync q joins blind) (ee ∙ ap coded ignores) went) refl went.holds
  where
    joins : awaits_children sync ≡ true
    joins = unfold awaits_children in refl

    blind : looks_in sync ≡ false
    blind = unfold looks_in in refl

    ignores : effect sync h.position h.register x f ≡ effect_of w h sync q x
    ignores = unfold effect in refl

-- A SPAWN, of procedure p
pub spawns_alone : Unlooked spawn
spawns_alone =
    record {
      alone = unfold awaits_children in refl;
      blind = unfold looks_in in refl;
      ignores = λ i r x f g. unfold effect in refl;
    }

-- A task that would be too deep is not made: what was read anew of the task at depth d, at time t
pub at_task : {w : List ℕ} {n : Standing} {d t : ℕ} {S : Stood} → Holds w n × (n.depth ≡ d) × (n.time ≡ t) → stood w d t ≡ S → Steps w n S
at_task {w} a e = record { here = ap₂ (λ (k u : ℕ). stood w k u) a.1 a.2 ∙ e; holds = a.0 }

pub too_deep_lem : (j table w : List ℕ) (h : Standing) (p x : ℕ) {b a t : ℕ} → 128 ≤ h.depth → Holds w h → b ≡ max h.own h.older
    → a ≡ ticks_for table spawn → t ≡ sum b a → stood w 0 t ≡ spawn_with j table w h p x
too_deep_lem j table w h p x {b} {a} {t} deep held eb ea et =
    unfold spawn_with in ap (λ (t : ℕ). stood w 0 t) time ∙ sym (pass _ (le-ltb h.depth 128 deep) refl)
  where
    time : t ≡ done_at table w h spawn p
    time = et ∙ ap₂ sum (own_is w h held (max_later _ _ b eb) ∙ ready_alone w h.depth spawn p spawns_alone.alone spawns_alone.blind) ea
