-- Where a task of the line stands among the steps and spots, and where an unfinished task stands on the line.
use Rattle.std.specs.Prelude.{◌≡◌, refl, true, ℕ}
use Rattle.std.proofs.Math.Path.{ap}
use Rattle.std.proofs.Common.{ap₂, sym, ◌∙◌, subst, inl}
use mathlib.Core.List.{List, [], ◌∷◌, ◌++◌, map, map-append, nil≢cons, head-eq_of_cons-eq, tail-eq_of_cons-eq}
use borrow.Author.Tests.{eqb-true}
use Rattle.spec_words.specs.Words.{halt}
use Rattle.spec_tree.specs.Rights.{uses}
use Rattle.spec_tree.specs.Queues.{all_used}
use Rattle.spec_order.specs.Steps.{Task, task, Item as Mark, step, spot as place, number_of, begin}
use Rattle.spec_order.specs.Waits.{unfinished}
use Rattle.law_order.specs.Items.{in_split}
use Rattle.law_order_waits.specs.Spots.{some_says, says_unfinished}
use Rattle.law_order_waits.specs.Changes.{in_right}
use Rattle.law_order_queue.specs.Points.{Timeline}
use Rattle.law_order_queue.specs.Laws.{begins as timeline-begins}
use Rattle.spec_job.specs.Accepted.{Accepted}
use Rattle.spec_plain.specs.Stack.{rights_of}
use Rattle.spec_line.specs.Line.{Item, value, spot, finished, gave}
use Rattle.law_job_line.proofs.Agree.{top}
use Rattle.law_job_order.specs.Beside.{Numbered, standing, places, task_of, points_of, Beside}
use Rattle.law_job_order.specs.Points.{places_append, standing_append}

no_end : {A : Type 0} (l r : List A) (x : A) → [] ≡ l ++ x ∷ r → ⊥
no_end [] r x e = nil≢cons e
no_end (y ∷ l) r x e = nil≢cons e

-- the place of a task among the steps and spots
pub place_at : (xs : List Mark) (ts us : List Task) (s : Task) → places xs ≡ ts ++ s ∷ us
    → (ys : List Mark) × (zs : List Mark) × (xs ≡ ys ++ place s ∷ zs) × (places ys ≡ ts) × (places zs ≡ us)
unfolding places
place_at [] ts us s e = absurd (no_end ts us s e)
place_at (step p a ∷ xs) ts us s e =
    let w = place_at xs ts us s e in
    (step p a ∷ w.0, w.1, ap (λ (l : List Mark). step p a ∷ l) w.2, w.3, w.4)
place_at (place o ∷ xs) [] us s e = ([], xs, ap (λ (t : Task). place t ∷ xs) (head-eq_of_cons-eq e), refl, tail-eq_of_cons-eq e)
place_at (place o ∷ xs) (t ∷ ts) us s e =
    let w = place_at xs ts us s (tail-eq_of_cons-eq e) in
    (place o ∷ w.0, w.1, ap (λ (l : List Mark). place o ∷ l) w.2, ap₂ (λ (t : Task) (l : List Task). t ∷ l) (head-eq_of_cons-eq e) w.3, w.4)

-- Task n, which stands between a and b on the line, stands between before and behind among the steps and spots.
pub record Located (j : List ℕ) (xs : List Mark) (a b : List (Item Numbered)) (n : Numbered) : Type 0 where
  pub before : List Mark
  pub behind : List Mark
  pub here : xs ≡ before ++ place (task_of j n) ∷ behind
  pub first : places before ≡ map (task_of j) (standing a)
  pub last : places behind ≡ map (task_of j) (standing b)

module _ (j : List ℕ) where
  -- the tasks of a line with a spot
  pub tasks_at : (a b : List (Item Numbered)) (n : Numbered)
      → map (task_of j) (standing (a ++ spot n ∷ b)) ≡ map (task_of j) (standing a) ++ task_of j n ∷ map (task_of j) (standing b)
  unfolding standing
  tasks_at a b n = ap (map (task_of j)) (standing_append a (spot n ∷ b)) ∙ map-append (task_of j) (standing a) (n ∷ standing b)

  pub located : {xs : List Mark} (a b : List (Item Numbered)) (n : Numbered) → Beside j xs (a ++ spot n ∷ b) → Located j xs a b n
  located {xs} a b n h =
      let w = place_at xs (map (task_of j) (standing a)) (map (task_of j) (standing b)) (task_of j n) (h.tasks ∙ tasks_at a b n) in
      record { before = w.0; behind = w.1; here = w.2; first = w.3; last = w.4 }

  -- a task that stands on the line is unfinished
  pub stands_unfinished : {xs : List Mark} (a b : List (Item Numbered)) (n : Numbered) → Beside j xs (a ++ spot n ∷ b) → unfinished n.number xs ≡ true
  unfolding task_of number_of
  stands_unfinished a b n h =
      let w = located a b n h in
      let here = place (task_of j n) in
      ap (unfinished n.number) w.here ∙ says_unfinished _ (task_of j n) (in_right here w.before (here ∷ w.behind) (inl refl))

-- Task number t stands on the line l.
pub record On (t : ℕ) (l : List (Item Numbered)) : Type 0 where
  pub before : List (Item Numbered)
  pub behind : List (Item Numbered)
  pub who : Numbered
  pub here : l ≡ before ++ spot who ∷ behind
  pub number : who.number ≡ t

on_past : {t : ℕ} {l : List (Item Numbered)} (x : Item Numbered) → On t l → On t (x ∷ l)
on_past x w =
    record { before = x ∷ w.before; behind = w.behind; who = w.who; here = ap (λ (k : List (Item Numbered)). x ∷ k) w.here; number = w.number }

one_stands : (j : List ℕ) (s : Task) (l : List (Item Numbered)) (ts us : List Task) → map (task_of j) (standing l) ≡ ts ++ s ∷ us → On (number_of s) l
unfolding standing task_of number_of
one_stands j s [] ts us e = absurd (no_end ts us s e)
one_stands j s (value q v ∷ l) ts us e = on_past (value q v) (one_stands j s l ts us e)
one_stands j s (finished n ∷ l) ts us e = on_past (finished n) (one_stands j s l ts us e)
one_stands j s (gave q ∷ l) ts us e = on_past (gave q) (one_stands j s l ts us e)
one_stands j s (spot n ∷ l) [] us e = record { before = []; behind = l; who = n; here = refl; number = ap number_of (head-eq_of_cons-eq e) }
one_stands j s (spot n ∷ l) (t ∷ ts) us e = on_past (spot n) (one_stands j s l ts us (tail-eq_of_cons-eq e))

module _ (j : List ℕ) where
  -- an unfinished task stands on the line
  pub unfinished_stands : {xs : List Mark} {l : List (Item Numbered)} → Beside j xs l → (t : ℕ) → unfinished t xs ≡ true → On t l
  unfolding unfinished places
  unfinished_stands {xs} {l} h t e =
      let w = some_says _ xs e in
      let v = in_split (place w.0) xs w.1 in
      let o = one_stands j w.0 l (places v.0) (places v.1) (sym h.tasks ∙ ap places v.2 ∙ places_append v.0 (place w.0 ∷ v.1)) in
      record { before = o.before; behind = o.behind; who = o.who; here = o.here; number = o.number ∙ eqb-true _ _ w.2 }

-- AT THE BEGINNING the top stands alone.
abbrev pub top_numbered : Numbered
top_numbered = record { number = 0; runner = top }

pub begins : (j : List ℕ) → Accepted j → Beside j begin (spot top_numbered ∷ [])
unfolding begin places standing task_of rights_of points_of
begins j acc =
    record {
      tasks = ap (λ (r : ℕ). task [] 0 r 0 ∷ []) (sym acc.top);
      queues = λ q i.
          let u = all_used q i in
          subst (Timeline q begin) (sym (halt _ _ (ap (λ (r : ℕ). uses r q) acc.top ∙ u))) (timeline-begins q u);
    }
