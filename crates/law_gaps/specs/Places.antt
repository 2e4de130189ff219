-- WHERE A VIEW GOES: the walks back along the line that a push and a finish make, and the chain of the gap they end in.
use Rattle.std.specs.Prelude.{◌≡◌, refl, List, [], ◌∷◌, ◌++◌, ℕ, ◌≤◌}
use Rattle.std.proofs.Common.{ap, arith}
use Rattle.spec_lists.specs.Counting.{occurrences, occurs_first}
use Rattle.spec_lists.specs.Maps.{off, Agree, agree_refl, agree_put}
use Rattle.law_gaps.specs.Line.{End, nonlocal, local, Extent, vacant, extent, base, exited, entered, pass, Line, exits, entries}
use Rattle.law_gaps.specs.Store.{Once}
use Rattle.law_gaps.specs.Lines.{count_exits, count_entries}
use Rattle.law_gaps.specs.Outline.{outline, same_once}
use Rattle.law_gaps.specs.Moves.{Place, children_of, right_of, children_with, rights_with}

-- The view just before, for a view with a non-local head: the right view of the task entered, or the children view of the task
-- exited. "Siblings without a right to q are passed over".
pub data Latest : Line → Place → Type 0 where
  at_entered : {t : ℕ} {c : List ℕ} {l : Line} → Latest (entered t c ∷ l) (right_of t)
  at_exited : {t : ℕ} {l : Line} → Latest (exited t ∷ l) (children_of t)
  over : {x : ℕ} {l : Line} {k : Place} → Latest l k → Latest (pass x ∷ l) k

-- The view just before, for a view with a local head: "and so is an empty children view on the way up, save the top's".
pub data Target (children : ℕ → Extent) : Line → Place → Type 0 where
  at_entered : {t : ℕ} {c : List ℕ} {l : Line} → Target children (entered t c ∷ l) (right_of t)
  at_exited : {t : ℕ} {l : Line} (h x : End) → children t ≡ extent h x → Target children (exited t ∷ l) (children_of t)
  top : {t : ℕ} {c : List ℕ} → Target children (exited t ∷ (base c ∷ [])) (children_of t)
  up : {t : ℕ} {l : Line} {k : Place} → children t ≡ vacant → Target children l k → Target children (exited t ∷ l) k
  over : {x : ℕ} {l : Line} {k : Place} → Target children l k → Target children (pass x ∷ l) k

-- Where a finish returns view v: a non-local head joins the view just before, a local one goes past vacant children views.
abbrev pub Returns : (ℕ → Extent) → Line → Extent → Place → Type 0
Returns children a vacant k = Unit {0}
Returns children a (extent nonlocal x) k = Latest a k
Returns children a (extent (local s) x) k = Target children a k

-- The line when the chain c is added to the chain of its latest gap; a chain of the first gap becomes d instead.
abbrev pub grow : Line → List ℕ → List ℕ → Line
grow [] c d = []
grow (base b ∷ l) c d = base d ∷ l
grow (exited t ∷ l) c d = exited t ∷ grow l c d
grow (entered t b ∷ l) c d = entered t (b ++ c) ∷ l
grow (pass x ∷ l) c d = pass x ∷ grow l c d

pub outline_grow : (l : Line) (c d : List ℕ) → outline (grow l c d) ≡ outline l
outline_grow [] c d = refl
outline_grow (base b ∷ l) c d = refl
outline_grow (exited t ∷ l) c d = ap (λ (k : Line). exited t ∷ k) (outline_grow l c d)
outline_grow (entered t b ∷ l) c d = refl
outline_grow (pass x ∷ l) c d = ap (λ (k : Line). pass x ∷ k) (outline_grow l c d)

pub once_grow : (l : Line) (c d : List ℕ) → Once l → Once (grow l c d)
once_grow l c d h = same_once (grow l c d) l (outline_grow l c d) h

pub latest_grow : {l : Line} {k : Place} (c d : List ℕ) → Latest l k → Latest (grow l c d) k
latest_grow c d at_entered = at_entered
latest_grow c d at_exited = at_exited
latest_grow c d (over o) = over (latest_grow c d o)

-- THE PLACE STANDS IN THE LINE, so what lies outside is not written.
abbrev pub In : Place → Line → Type 0
In (children_of t) l = 1 ≤ occurrences t (exits l)
In (right_of t) l = 1 ≤ occurrences t (entries l)

in_left : (k : Place) (t : ℕ) (l : Line) → In k l → In k (exited t ∷ l)
unfolding occurrences
in_left (children_of u) t l h = omega (arith, h)
in_left (right_of u) t l h = h

in_pass : (k : Place) (x : ℕ) (l : Line) → In k l → In k (pass x ∷ l)
in_pass (children_of u) x l h = h
in_pass (right_of u) x l h = h

pub target_in : {children : ℕ → Extent} {l : Line} (k : Place) → Target children l k → In k l
target_in (right_of t) (at_entered {l = l}) = occurs_first t (entries l)
target_in (children_of t) (at_exited {l = l} h x e) = occurs_first t (exits l)
target_in (children_of t) top = occurs_first t []
target_in k (up {t = t} {l = l} e o) = in_left k t l (target_in k o)
target_in k (over {x = x} {l = l} o) = in_pass k x l (target_in k o)

pub latest_in : {l : Line} (k : Place) → Latest l k → In k l
latest_in (right_of t) (at_entered {l = l}) = occurs_first t (entries l)
latest_in (children_of t) (at_exited {l = l}) = occurs_first t (exits l)
latest_in k (over {x = x} {l = l} o) = in_pass k x l (latest_in k o)

module _ (h x : End) (f : ℕ → Extent) (b l : Line) (d : Once (b ++ l)) where
  pub children_outside : (k : Place) → In k l → Agree f (children_with (extent h x) k f) (exits b)
  children_outside (children_of t) i = agree_put f t _ (exits b) (off t (exits b) (omega (arith, i, count_exits t b l, (d t).0)))
  children_outside (right_of t) i = agree_refl f (exits b)

  pub rights_outside : (k : Place) → In k l → Agree f (rights_with (extent h x) k f) (entries b)
  rights_outside (children_of t) i = agree_refl f (entries b)
  rights_outside (right_of t) i = agree_put f t _ (entries b) (off t (entries b) (omega (arith, i, count_entries t b l, (d t).1)))
