-- WHERE ALL VALUES PUSHED ARE WORDS, SO ARE THOSE THAT PROGRAM ORDER HANDS OUT: a pending value is one that was pushed.
use Rattle.std.specs.Prelude.{true, false, List, [], ◌∷◌, ℕ, zero, suc, ◌<◌, eqb}
use Rattle.std.proofs.Common.{arith}
use Rattle.spec_lists.specs.Maps.{All, all_append}
use Rattle.spec_answers.specs.declared.Answer.{Answer}
use Rattle.spec_answers.specs.declared.Answer.TheVariants.{Moved, Empty, Waits, Refused}
use Rattle.spec_answers.specs.declared.Finding.{Finding}
use Rattle.spec_answers.specs.Calls.{Call, open_call, spawn_call, push_call, take_call, sync_call, finish_call, left_call}
use Rattle.law_timed_line.specs.Times.{picked}
use Rattle.spec_order.specs.Steps.{Task, task, Act, spawns, pushes, pops, tests, syncs, finishes, Item, step, spot, number_of}
use Rattle.spec_order.specs.Steps.{begin, made, moved, advance, counted, found_none, noted}
use Rattle.spec_order.specs.Finding.{before, Pending, pending, Run, run, later, stepped, passes, runs, found, finding, value_number, pending_of, left_over}
use Rattle.spec_order.specs.Ordered.{take_answer, left_answer}

-- "words of 32 bits"
abbrev pub IsWord : ℕ → Type 0
IsWord v = v < 4294967296

abbrev pub AnswerFits : Answer → Type 0
AnswerFits (Moved v) = IsWord v
AnswerFits Empty = Unit {0}
AnswerFits Waits = Unit {0}
AnswerFits (Refused k) = IsWord k

abbrev pub ActFits : Act → Type 0
ActFits (spawns c r) = Unit {0}
ActFits (pushes q v) = IsWord v
ActFits (pops q) = Unit {0}
ActFits (tests q) = Unit {0}
ActFits syncs = Unit {0}
ActFits finishes = Unit {0}

abbrev pub ItemFits : Item → Type 0
ItemFits (step p a) = ActFits a
ItemFits (spot s) = Unit {0}

-- THE STEPS SO FAR push words only
abbrev pub OrderFits : List Item → Type 0
OrderFits xs = All ItemFits xs

-- A CALL KEEPS IT
pub begin_fits : OrderFits begin
unfolding begin
begin_fits = (tt, tt)

made_fits : (s : Task) (a : Act) → ActFits a → OrderFits (made s a)
unfolding made
made_fits (task p t r k) (spawns c u) h = omega arith
made_fits (task p t r k) (pushes q v) h = omega arith
made_fits (task p t r k) (pops q) h = omega arith
made_fits (task p t r k) (tests q) h = omega arith
made_fits (task p t r k) syncs h = omega arith
made_fits (task p t r k) finishes h = omega arith

moved_fits : (t : ℕ) (a : Act) (x : Item) → ActFits a → ItemFits x → OrderFits (moved t a x)
unfolding moved
moved_fits t a (step p b) h k = (k, tt)
moved_fits t a (spot s) h k = picked OrderFits (eqb (number_of s) t) (made_fits s a h) (tt, tt)

pub advance_fits : (t : ℕ) (a : Act) (xs : List Item) → ActFits a → OrderFits xs → OrderFits (advance t a xs)
unfolding advance
advance_fits t a [] h k = tt
advance_fits t a (x ∷ xs) h k = all_append ItemFits (moved t a x) (advance t a xs) (moved_fits t a x h k.0) (advance_fits t a xs h k.1)

none_fits : (c : Call) (xs : List Item) → OrderFits xs → OrderFits (found_none c xs)
unfolding found_none
none_fits (open_call l n) xs h = h
none_fits (spawn_call t r) xs h = h
none_fits (push_call t q vs) xs h = h
none_fits (take_call t q keep) xs h = advance_fits t (tests q) xs tt h
none_fits (sync_call t) xs h = h
none_fits (finish_call t) xs h = h
none_fits (left_call q i) xs h = h

pub noted_fits : (c : Call) (a : Answer) (xs : List Item) → ((v : ℕ) → OrderFits (counted c v xs)) → OrderFits xs → OrderFits (noted c a xs)
unfolding noted
noted_fits c (Moved v) xs h k = h v
noted_fits c Empty xs h k = none_fits c xs k
noted_fits c Waits xs h k = k
noted_fits c (Refused n) xs h k = k

-- WHAT IS PENDING
abbrev PendingFits : Pending → Type 0
PendingFits (pending v b) = IsWord v

abbrev RunFits : Run → Type 0
RunFits r = All PendingFits (pending_of r)

later_fits : (vs : List Pending) → All PendingFits vs → All PendingFits (later vs)
unfolding later
later_fits [] h = tt
later_fits (v ∷ vs) h = h.1

stepped_fits : (q : ℕ) (a : Act) (r : Run) → ActFits a → RunFits r → RunFits (stepped q a r)
unfolding stepped pending_of
stepped_fits q (pushes p v) (run b vs) h k = picked RunFits (eqb p q) (all_append PendingFits vs (pending v b ∷ []) k (h, tt)) k
stepped_fits q (pops p) (run b vs) h k = picked RunFits (eqb p q) (later_fits vs k) k
stepped_fits q (spawns c r) (run b vs) h k = k
stepped_fits q (tests p) (run b vs) h k = k
stepped_fits q syncs (run b vs) h k = k
stepped_fits q finishes (run b vs) h k = k

runs_fits : (q : ℕ) (xs : List Item) (r : Run) → OrderFits xs → RunFits r → RunFits (runs q xs r)
unfolding runs passes pending_of
runs_fits q [] r h k = k
runs_fits q (step p a ∷ xs) r h k = runs_fits q xs (stepped q a r) h.1 (stepped_fits q a r h.0 k)
runs_fits q (spot s ∷ xs) (run b vs) h k = runs_fits q xs (passes q s (run b vs)) h.1 k

-- WHAT A TAKE FINDS
before_fits : (t : ℕ) (xs : List Item) → OrderFits xs → OrderFits (before t xs)
unfolding before
before_fits t [] h = tt
before_fits t (step p a ∷ xs) h = (h.0, before_fits t xs h.1)
before_fits t (spot s ∷ xs) h = picked OrderFits (eqb (number_of s) t) tt (tt, before_fits t xs h.1)

found_fits : (r : Run) → RunFits r → AnswerFits (take_answer (found r))
unfolding found take_answer pending_of
found_fits (run b (pending v false ∷ vs)) h = h.0
found_fits (run b (pending v true ∷ vs)) h = tt
found_fits (run false []) h = tt
found_fits (run true []) h = tt

pub take_fits : (t q : ℕ) (xs : List Item) → OrderFits xs → AnswerFits (take_answer (finding t q xs))
unfolding finding take_answer pending_of
take_fits t q xs h =
    picked (λ (f : Finding). AnswerFits (take_answer f)) _ tt (found_fits _ (runs_fits q (before t xs) (run false []) (before_fits t xs h) tt))

-- WHAT IS LEFT
number_fits : (i : ℕ) (vs : List Pending) → All PendingFits vs → AnswerFits (left_answer (value_number i vs))
unfolding value_number left_answer
number_fits i [] h = omega arith
number_fits zero (pending v b ∷ vs) h = h.0
number_fits (suc i) (v ∷ vs) h = number_fits i vs h.1

pub left_fits : (q i : ℕ) (xs : List Item) → OrderFits xs → AnswerFits (left_answer (left_over q i xs))
unfolding left_over pending_of
left_fits q i xs h = number_fits i _ (runs_fits q xs (run false []) h tt)
