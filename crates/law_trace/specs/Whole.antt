-- THE READER AND THE PRINTER ARE INVERSE: a trace is read as the lines of which it is the text, and what is read has that text.
use Rattle.std.specs.Prelude.{◌≡◌, refl, Bool, true, false, not, List, [], ◌∷◌, ◌++◌, ℕ, zero, suc, ◌≤◌, length}
use Rattle.std.proofs.Common.{ap, sym, ◌∙◌, subst, arith}
use Rattle.std.proofs.Math.Option.{Option, none, some, none-ne-some, some-injective}
use Rattle.spec_words.specs.Words.{pick, both, pass}
use Rattle.spec_lists.specs.Maps.{All}
use Rattle.text.specs.Text.{ascii}
use Rattle.spec_trace.specs.declared.Line.{Line}
use Rattle.spec_trace.specs.Line.{render, render_all, Valid}
use Rattle.spec_trace.specs.Read.{front, behind_byte, behind_text, digit_of, number_at, behind_feed, open_at, LineRead, line_at}
use Rattle.spec_trace.specs.Form.{is_call, in_front, followed, lines_in, trace_lines, CallsFirst, Lined, Trace}
use Rattle.law_trace.specs.Rendered.{rendered_read, read_rendered}

-- there is no line in nothing
no_line : (line_at []).rest ≡ none
unfolding line_at open_at front digit_of behind_text behind_byte number_at behind_feed ascii pick
no_line = refl

-- a line, and what follows it
pub line_first : (l : Line) (ls : List Line) → Valid l → line_at (render_all (l ∷ ls)) ≡ record { line = l; rest = some (render_all ls) }
unfolding render_all
line_first l ls v = rendered_read l v (render_all ls)

pub some_text : (l : Line) (ls : List Line) → Valid l → render_all (l ∷ ls) ≡ [] → ⊥
some_text l ls v q = none-ne-some _ (sym no_line ∙ ap (λ (bs : List ℕ). (line_at bs).rest) (sym q) ∙ ap (λ (x : LineRead). x.rest) (line_first l ls v))

-- PRINTED, THEN READ
pub lines_read : (ls : List Line) (f : ℕ) (e : Bool) → All Valid ls → CallsFirst e ls → length ls ≤ f → lines_in f e (render_all ls) ≡ some ls
unfolding render_all lines_in followed in_front
lines_read [] zero e v o h = refl
lines_read [] (suc f) e v o h = refl
lines_read (l ∷ ls) zero e v o h = let z : ⊥ = omega (arith, h) in absurd z
lines_read (l ∷ ls) (suc f) e v o h = go (render_all (l ∷ ls)) refl (lines_read ls f (not (is_call l)) v.1 o.1 (omega (arith, h)))
  where
    go : (bs : List ℕ) → render_all (l ∷ ls) ≡ bs → lines_in f (not (is_call l)) (render_all ls) ≡ some ls → lines_in (suc f) e bs ≡ some (l ∷ ls)
    go [] q r = absurd (some_text l ls v.0 q)
    go (b ∷ bs) q r =
        ap (λ (y : LineRead). followed e y.line y.rest (lines_in f (not (is_call y.line)))) (ap line_at (sym q) ∙ line_first l ls v.0)
        ∙ pass _ o.0 (ap (in_front l) r)

pub reads : {bs : List ℕ} {ls : List Line} → Trace bs ls → trace_lines bs ≡ some ls
unfolding trace_lines
reads {bs} {ls} t = ap (lines_in 65535 false) (sym t.text) ∙ lines_read ls 65535 false t.valid t.order t.few

-- READ, THEN PRINTED
nothing_read : (f : ℕ) (e : Bool) (ls : List Line) → some [] ≡ some ls → Lined f e [] ls
unfolding render_all
nothing_read f e ls q = subst (Lined f e []) (some-injective _ _ q) (record { text = refl; valid = tt; order = tt; few = omega arith })

-- what is known of fewer lines
abbrev Fewer : ℕ → Type 0
Fewer f = (e : Bool) (bs : List ℕ) (ls : List Line) → lines_in f e bs ≡ some ls → Lined f e bs ls

pub lines_printed : (f : ℕ) (e : Bool) (bs : List ℕ) (ls : List Line) → lines_in f e bs ≡ some ls → Lined f e bs ls
unfolding lines_in followed in_front render_all pick
lines_printed zero e [] ls q = nothing_read zero e ls q
lines_printed zero e (b ∷ bs) ls q = absurd (none-ne-some _ q)
lines_printed (suc f) e [] ls q = nothing_read (suc f) e ls q
lines_printed (suc f) e (b ∷ bs) ls q = first (line_at (b ∷ bs)).rest refl q (lines_printed f)
  where
    l : Line
    l = (line_at (b ∷ bs)).line

    more : List ℕ → Option (List Line)
    more = lines_in f (not (is_call l))

    whole : (rest : List ℕ) (us : List Line) → (line_at (b ∷ bs)).rest ≡ some rest → both e (is_call l) ≡ false → Lined f (not (is_call l)) rest us
        → Lined (suc f) e (b ∷ bs) (l ∷ us)
    whole rest us r o p =
        let w = read_rendered (b ∷ bs) rest r in
        record {
          text = ap (λ (x : List ℕ). render l ++ x) p.text ∙ sym w.0;
          valid = (w.1, p.valid);
          order = (o, p.order);
          few = let h = p.few in omega (arith, h);
        }

    third : (rest : List ℕ) (x : Option (List Line)) → (line_at (b ∷ bs)).rest ≡ some rest → more rest ≡ x → both e (is_call l) ≡ false → in_front l x ≡ some ls
        → Fewer f → Lined (suc f) e (b ∷ bs) ls
    third rest none r x o z k = absurd (none-ne-some _ z)
    third rest (some us) r x o z k =
        subst (Lined (suc f) e (b ∷ bs)) (some-injective _ _ z) (whole rest us r o (k (not (is_call l)) rest us x))

    second : (rest : List ℕ) (c : Bool) → (line_at (b ∷ bs)).rest ≡ some rest → both e (is_call l) ≡ c → pick c none (in_front l (more rest)) ≡ some ls
        → Fewer f → Lined (suc f) e (b ∷ bs) ls
    second rest true r o z k = absurd (none-ne-some _ z)
    second rest false r o z k = third rest (more rest) r refl o z k

    first : (x : Option (List ℕ)) → (line_at (b ∷ bs)).rest ≡ x → followed e l x more ≡ some ls → Fewer f → Lined (suc f) e (b ∷ bs) ls
    first none r z k = absurd (none-ne-some _ z)
    first (some rest) r z k = second rest (both e (is_call l)) r refl z k

pub read : {bs : List ℕ} {ls : List Line} → trace_lines bs ≡ some ls → Trace bs ls
unfolding trace_lines
read {bs} {ls} q = lines_printed 65535 false bs ls q
