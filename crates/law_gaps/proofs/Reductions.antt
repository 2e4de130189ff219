-- REDUCTIONS ALONG A LINE: what a view that is handed on does to the views of the gap it goes to.
use Rattle.std.specs.Prelude.{◌≡◌, refl, List, [], ◌∷◌, ◌++◌, ℕ}
use Rattle.std.proofs.Common.{ap, sym, ◌∙◌}
use Rattle.spec_lists.specs.Maps.{put, put_same, put_other, Off, agree_refl, agree_put, last_of, last_append}
use Rattle.law_gaps.specs.Line.{End, nonlocal, local, Extent, vacant, extent, exited, Line, exits, entries, Mode, settled, awaiting, Inside, rest, mid, close}
use Rattle.law_gaps.specs.Line.{Begins, bare, whole, begun, Views, queue, exiting, entering, passing}
use Rattle.law_gaps.specs.Store.{Once}
use Rattle.law_gaps.specs.Lines.{once_behind, exited_off, entered_off}
use Rattle.law_gaps.proofs.Frames.{clash, keep}
use Rattle.law_gaps.specs.Moves.{Place, children_of, right_of, reduced, children_with, rights_with}
use Rattle.law_gaps.specs.Places.{Latest, Target, grow}

-- two views inside a gap, one behind the other, are reduced
pub fuse : {m n o : Mode} {v w : Extent} → Inside m v n → Inside n w o → Inside m (reduced v w) o
fuse rest j = j
fuse mid rest = mid
fuse mid mid = mid
fuse mid close = close
fuse close rest = close

-- a chain s ∷ c that comes behind the chain a ∷ b, or behind a last segment
extend : {a : ℕ} (b : List ℕ) {s : ℕ} {c : List ℕ} {x : End} {n : Mode} → Begins (s ∷ c) (extent (local s) x) n
    → Begins (a ∷ (b ++ (s ∷ c))) (extent (local a) x) n
extend b = extended b
  where
    extended : {a : ℕ} (b : List ℕ) {s h : ℕ} {c : List ℕ} {x : End} {n : Mode} → Begins (s ∷ c) (extent (local h) x) n
        → Begins (a ∷ (b ++ (s ∷ c))) (extent (local a) x) n
    extended {a = a} b {s = s} {c = c} (whole y) = whole (last_append a b s c ∙ y)
    extended {a = a} b {s = s} {c = c} (begun y) = begun (last_append a b s c ∙ y)

pub reach : {s : ℕ} {c : List ℕ} {x : End} {n : Mode} → Begins (s ∷ c) (extent (local s) x) n → Inside (awaiting (last_of s c)) (extent nonlocal x) n
reach = reached
  where
    reached : {s h : ℕ} {c : List ℕ} {x : End} {n : Mode} → Begins (s ∷ c) (extent (local h) x) n → Inside (awaiting (last_of s c)) (extent nonlocal x) n
    reached (whole y) = rw y close
    reached (begun y) = rw y mid

onto : {s z : ℕ} {c : List ℕ} {x : End} {n : Mode} → last_of s c ≡ z → Inside (awaiting z) (extent nonlocal x) n
    → Begins (s ∷ c) (extent (local s) x) n
onto y mid = begun y
onto y close = whole y

-- A chain whose tail is still to come grows by s ∷ c; the first gap's becomes q ∷ d, which ends with the same segment.
pub stretch : {children user right : ℕ → Extent} {l : Line} {z : ℕ} (s : ℕ) (c : List ℕ) (q : ℕ) (d : List ℕ) → last_of q d ≡ last_of s c
    → Views children user right l (awaiting z) → Views children user right (grow l (s ∷ c) (q ∷ d)) (awaiting (last_of s c))
stretch s c q d e (queue f) = queue e
stretch s c q d e (exiting v f rest r) = exiting v f rest (stretch s c q d e r)
stretch s c q d e (exiting v f mid r) = exiting v f mid (stretch s c q d e r)
stretch s c q d e (entering v w f i g (begun {s = a} {c = b} x) r) = entering v w f i g (begun (last_append a b s c)) r
stretch s c q d e (passing r) = passing (stretch s c q d e r)

-- what a change of one task's children view, or right view, leaves alone
module _ {children user right : ℕ → Extent} {l : Line} {m : Mode} (t : ℕ) (v : Extent) where
  pub put_children : Off t (exits l) → Views children user right l m → Views (put children t v) user right l m
  put_children o r = keep (agree_put children t v (exits l) o) (agree_refl user (entries l)) (agree_refl right (entries l)) r

  pub put_right : Off t (entries l) → Views children user right l m → Views children user (put right t v) l m
  put_right o r = keep (agree_refl children (exits l)) (agree_refl user (entries l)) (agree_put right t v (entries l) o) r

target_off : {children : ℕ → Extent} {l : Line} {u : ℕ} (t : ℕ) → Target children l (children_of u) → Off t (exits l) → t ≡ u → ⊥
target_off t (Target.at_exited h x e) o f = o.0 (sym f)
target_off t Target.top o f = o.0 (sym f)
target_off t (Target.up e k) o f = target_off t k o.1 f
target_off t (Target.over k) o f = target_off t k o f

place_off : {children : ℕ → Extent} {l : Line} (t : ℕ) (k : Place) (h x : End) → Target children l k → Off t (exits l)
    → children_with (extent h x) k children t ≡ children t
place_off {children} t (children_of u) h x o n = put_other children u _ t (target_off t o n)
place_off t (right_of u) h x o n = refl

-- A VIEW WITH A LOCAL HEAD, and the chain s ∷ c, is put where the walk back leads.
module _ (children user right : ℕ → Extent) (s : ℕ) (c : List ℕ) (q : ℕ) (d : List ℕ) (e : last_of q d ≡ last_of s c) (x : End) where
  abbrev Done : Line → Place → Mode → Type 0
  Done l k n = Views (children_with (extent (local s) x) k children) user (rights_with (extent (local s) x) k right) (grow l (s ∷ c) (q ∷ d)) n

  -- behind a children view with a tail
  behind : {l : Line} {m n : Mode} (t : ℕ) (v : Extent) → Once (exited t ∷ l) → Begins (s ∷ c) (extent (local s) x) n → children t ≡ v
      → Inside m v settled → (v ≡ vacant → ⊥) → Views children user right l m → Done (exited t ∷ l) (children_of t) n
  behind t v once b f rest some r = absurd (some refl)
  behind {l} t v once b f close some r =
      exiting (extent nonlocal x) (put_same children t _ ∙ ap (λ (z : Extent). reduced z (extent (local s) x)) f) (reach b)
      (stretch s c q d e (put_children t _ (exited_off t [] l once).1 r))

  pub deposit : {l : Line} {n : Mode} (k : Place) → Once l → Begins (s ∷ c) (extent (local s) x) n → Target children l k
      → Views children user right l settled → Done l k n
  deposit (right_of t) once b (Target.at_entered {l = l}) (entering v w f i g bare r) =
      entering v (extent (local s) x) f i (put_same right t _ ∙ ap (λ (z : Extent). reduced z (extent (local s) x)) g) b
      (put_right t _ (entered_off t [] [] l once).1 r)
  deposit (right_of t) once b (Target.at_entered {l = l}) (entering v w f i g (whole {s = a} {c = b'} y) r) =
      entering v (extent (local a) x) f i (put_same right t _ ∙ ap (λ (z : Extent). reduced z (extent (local s) x)) g) (extend b' b)
      (put_right t _ (entered_off t [] [] l once).1 r)
  deposit (children_of t) once b (Target.at_exited h y f) (exiting v g i r) = behind t v once b g i (λ z. clash (children t) (g ∙ z) f) r
  deposit (children_of t) once b Target.top (exiting v g rest r) = elim r [ ]
  deposit (children_of t) once b Target.top (exiting v g close r) = behind t v once b g close (λ z. clash v z refl) r
  deposit k once b (Target.up {t = t} {l = l} f o) (exiting v g rest r) =
      exiting vacant (place_off t k (local s) x o (exited_off t [] l once).1 ∙ f) rest (deposit k (once_behind (exited t ∷ []) l once) b o r)
  deposit k once b (Target.up {t = t} f o) (exiting v g close r) = clash (children t) f g
  deposit k once b (Target.over o) (passing r) = passing (deposit k once b o r)

-- A VIEW WITH A NON-LOCAL HEAD is put into the view just before.
pub settle : {children user right : ℕ → Extent} {l : Line} {z : ℕ} {x : End} {n : Mode} (k : Place) → Once l
    → Inside (awaiting z) (extent nonlocal x) n → Latest l k → Views children user right l (awaiting z)
    → Views (children_with (extent nonlocal x) k children) user (rights_with (extent nonlocal x) k right) l n
settle {children} {user} {right} {x = x} (children_of t) once j (Latest.at_exited {l = l}) (exiting v f rest r) =
    exiting (extent nonlocal x) (put_same children t _ ∙ ap (λ (z : Extent). reduced z (extent nonlocal x)) f) j
    (put_children t _ (exited_off t [] l once).1 r)
settle {children} {user} {right} {x = x} (children_of t) once j (Latest.at_exited {l = l}) (exiting v f mid r) =
    exiting (extent nonlocal x) (put_same children t _ ∙ ap (λ (z : Extent). reduced z (extent nonlocal x)) f) j
    (put_children t _ (exited_off t [] l once).1 r)
settle {children} {user} {right} {x = x} (right_of t) once j (Latest.at_entered {l = l}) (entering v w f i g (begun {s = a} y) r) =
    entering v (extent (local a) x) f i (put_same right t _ ∙ ap (λ (z : Extent). reduced z (extent nonlocal x)) g) (onto y j)
    (put_right t _ (entered_off t [] [] l once).1 r)
settle k once j (Latest.over o) (passing r) = passing (settle k once j o r)
