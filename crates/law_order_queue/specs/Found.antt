-- WHAT A TASK FINDS that has no popper before it is read off the front of the timeline.
use Rattle.std.specs.Prelude.{◌≡◌, refl, Bool, true, false, ℕ, eqb, length, drop}
use Rattle.std.proofs.Common.{ap, sym, ◌∙◌, subst, ⊎_elim}
use mathlib.Core.List.{List, [], ◌∷◌, ◌++◌, tail-eq_of_cons-eq, cons-ne-nil}
use Rattle.spec_words.specs.Words.{pick, pass, halt, either}
use Rattle.spec_tree.specs.Rights.{pushes as mayPush, uses}
use Rattle.spec_answers.specs.declared.Finding.{Finding}
use Rattle.spec_answers.specs.declared.Finding.TheVariants.{Value, Empty, Waits}
use Rattle.spec_order.specs.Steps.{Item, step, spot, number_of, rights_of}
use Rattle.spec_order.specs.Finding.{Pending, pending, Run, run, found}
use Rattle.spec_tree.specs.Users.{uses_pushes, useless_pushes}
use Rattle.law_order_queue.specs.Points.{Point, value, user, values, added, along, NoPopper}
use Rattle.law_order_queue.specs.Balance.{added_one}
use Rattle.law_order_queue.specs.Pending.{flags, flagged, flag_after}

-- every value has the flag
abbrev Flagged : List Pending → Type 0
Flagged [] = Unit {0}
Flagged (pending v b ∷ vs) = (b ≡ true) × Flagged vs

-- what the plain queue says, by the points that are left
pub data Front : List Point → Run → Type 0 where
  first : {b : Bool} {v : ℕ} {ps : List Point} {vs : List Pending} → Front (value v ∷ ps) (run b (pending v false ∷ vs))
  nothing : Front [] (run false [])
  held : {t : ℕ} {ps : List Point} {vs : List Pending} → Flagged vs → Front (user t ∷ ps) (run true vs)

flags_held : (ps : List Point) → Flagged (flags true ps)
unfolding flags
flags_held [] = tt
flags_held (value v ∷ ps) = (refl, flags_held ps)
flags_held (user t ∷ ps) = flags_held ps

flagged_append : (vs ws : List Pending) → Flagged vs → Flagged ws → Flagged (vs ++ ws)
flagged_append [] ws h k = k
flagged_append (pending v b ∷ vs) ws h k = (h.0, flagged_append vs ws h.1 k)

-- behind a pusher's spot all is flagged
behind_pusher : (q : ℕ) (xs : List Item) → Flagged (flagged q true xs) × (flag_after q true xs ≡ true)
unfolding flagged flag_after either pick
behind_pusher q [] = (tt, refl)
behind_pusher q (step p a ∷ xs) =
    let w = behind_pusher q xs in (flagged_append (flags true (added q a)) (flagged q true xs) (flags_held (added q a)) w.0, w.1)
behind_pusher q (spot s ∷ xs) = behind_pusher q xs

cons_apart : {v t : ℕ} {ps rs : List Point} → value v ∷ ps ≡ user t ∷ rs → ⊥
cons_apart e = let z : ◌≡◌ {A = ℕ} 0 1 = cc in omega native.Mathlib.Omega.arith

same_value : {v w : ℕ} {ps rs : List Point} → value v ∷ ps ≡ value w ∷ rs → (v ≡ w) × (ps ≡ rs)
same_value e = (cc, tail-eq_of_cons-eq e)

abbrev Says : ℕ → List Item → List ℕ → List Point → Bool → Type 0
Says q xs popped ps b = Front ps (run (flag_after q b xs) (drop (length popped) (flagged q b xs)))

abbrev More : ℕ → List Item → Type 0
More q xs = (popped : List ℕ) (ps : List Point) → along q xs ≡ values popped ++ ps → Says q xs popped ps false

pub front : (q : ℕ) (xs : List Item) (popped : List ℕ) (ps : List Point) → NoPopper q xs → along q xs ≡ values popped ++ ps
    → Front ps (run (flag_after q false xs) (drop (length popped) (flagged q false xs)))
unfolding along flagged flag_after flags either pick
front q [] [] [] n e = nothing
front q [] [] (x ∷ ps) n e = absurd (cons-ne-nil _ _ (sym e))
front q [] (w ∷ popped) ps n e = absurd (cons-ne-nil _ _ (sym e))
front q (step p a ∷ xs) popped ps n e = ⊎_elim (none (front q xs popped ps n)) (one (λ vs rs. front q xs vs rs n)) (added_one q a)
  where
    none : (along q xs ≡ values popped ++ ps → Says q xs popped ps false) → added q a ≡ []
        → Front ps (run (flag_after q false xs) (drop (length popped) (flags false (added q a) ++ flagged q false xs)))
    none rest d = rw d (rest (ap (λ (l : List Point). l ++ along q xs) (sym d) ∙ e))

    by : More q xs → (v : ℕ) (popped : List ℕ) (ps : List Point) → value v ∷ along q xs ≡ values popped ++ ps
        → Front ps (run (flag_after q false xs) (drop (length popped) (pending v false ∷ flagged q false xs)))
    by rest v [] [] d = absurd (cons-ne-nil _ _ d)
    by rest v [] (value w ∷ ps) d = rw (sym (same_value d).0) first
    by rest v [] (user t ∷ ps) d = absurd (cons_apart d)
    by rest v (w ∷ popped) ps d = rest popped ps (same_value d).1

    one : More q xs → (v : ℕ) × (added q a ≡ value v ∷ [])
        → Front ps (run (flag_after q false xs) (drop (length popped) (flags false (added q a) ++ flagged q false xs)))
    one rest w = rw w.1 (by rest w.0 popped ps (ap (λ (l : List Point). l ++ along q xs) (sym w.1) ∙ e))
front q (spot s ∷ xs) popped ps n e = go (front q xs popped ps n.1) (uses (rights_of s) q) refl
  where
    user_first : (popped : List ℕ) (ps : List Point) → user (number_of s) ∷ along q xs ≡ values popped ++ ps
        → Front ps (run (flag_after q true xs) (drop (length popped) (flagged q true xs)))
    user_first [] [] d = absurd (cons-ne-nil _ _ d)
    user_first [] (value w ∷ ps) d = absurd (cons_apart (sym d))
    user_first [] (user t ∷ ps) d = let w = behind_pusher q xs in rw w.1 (held w.0)
    user_first (w ∷ popped) ps d = absurd (cons_apart (sym d))

    go : (along q xs ≡ values popped ++ ps → Says q xs popped ps false) → (b : Bool) → uses (rights_of s) q ≡ b
        → Says q xs popped ps (either false (mayPush (rights_of s) q))
    go rest true u =
        subst (Says q xs popped ps) (sym (uses_pushes (rights_of s) q u n.0))
        (user_first popped ps (sym (halt (user (number_of s) ∷ along q xs) (along q xs) u) ∙ e))
    go rest false u =
        subst (Says q xs popped ps) (sym (useless_pushes (rights_of s) q u)) (rest (sym (pass (user (number_of s) ∷ along q xs) u refl) ∙ e))

-- the finding of task t at the front of the timeline
unfoldable pub first_of : ℕ → List Point → Finding
first_of t [] = Empty
first_of t (value v ∷ ps) = Value v
first_of t (user u ∷ ps) = pick (eqb u t) Empty Waits

pub found_first : {v : ℕ} {ps : List Point} {r : Run} → Front (value v ∷ ps) r → found r ≡ Value v
unfolding found
found_first first = refl

pub found_nothing : {r : Run} → Front [] r → found r ≡ Empty
unfolding found
found_nothing nothing = refl

pub found_held : {t : ℕ} {ps : List Point} {r : Run} → Front (user t ∷ ps) r → found r ≡ Waits
unfolding found
found_held (held {vs = vs} h) = go vs h
  where
    go : (vs : List Pending) → Flagged vs → found (run true vs) ≡ Waits
    go [] h = refl
    go (pending v b ∷ vs) h = rw h.0 refl
