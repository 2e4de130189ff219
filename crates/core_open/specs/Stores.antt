-- Stores in a row, as the code makes them.
use Rattle.std.specs.Prelude.{◌≡◌, refl, List, [], ◌∷◌, ℕ, suc, ◌+◌, ◌-◌, ◌*◌, ◌<◌, ◌≤◌, length, replicate}
use Rattle.std.proofs.Common.{ap, sym, ◌∙◌, arith}
use Rattle.spec_words.specs.Words.{store}
use Rattle.spec_words.specs.Blocks.{store_all, store_none, store_more, store_append, store_three}
use Rattle.memory.specs.Queues.{done_below}
use Rattle.spec_layout.specs.Layout.{NONE, NL, segment, task, address, write}
use Rattle.spec_outcomes.specs.Open.{down, empty_segment, top_links, top_views, stacked, segmented, topped, opened}

-- one number more
pub down_step : (m m' : List ℕ) (a n x i : ℕ) → i < n → n ≤ x + 1 → m' ≡ store m (a + i) (x - i)
    → store_all m' (a + (i + 1)) (down (n - (i + 1)) (x - (i + 1))) ≡ store_all m (a + i) (down (n - i) (x - i))
unfolding down
down_step m m' a n x i l g e =
    ap (λ (k : List ℕ). store_all k (a + (i + 1)) (down (n - (i + 1)) (x - (i + 1)))) e
    ∙ ap (λ (b : ℕ). store_all (store m (a + i) (x - i)) b (down (n - (i + 1)) (x - (i + 1)))) (let z : a + (i + 1) ≡ suc (a + i) = omega arith in z)
    ∙ sym (store_more m (a + i) (x - i) (down (n - (i + 1)) (x - (i + 1))))
    ∙ ap (λ (y : ℕ). store_all m (a + i) ((x - i) ∷ down (n - (i + 1)) y)) (let z : x - (i + 1) ≡ x - i - 1 = omega arith in z)
    ∙ ap (λ (k : ℕ). store_all m (a + i) (down k (x - i))) (let z : suc (n - (i + 1)) ≡ n - i = omega arith in z)

pub down_done : (m : List ℕ) (a n x i : ℕ) → n ≤ i → store_all m (a + i) (down (n - i) (x - i)) ≡ m
unfolding down
down_done m a n x i l = ap (λ (k : ℕ). store_all m (a + i) (down k (x - i))) (let z : n - i ≡ 0 = omega arith in z) ∙ store_none m (a + i)

-- four words in front of others
pub four_more : (m m' : List ℕ) (a w0 w1 w2 w3 : ℕ) (ws : List ℕ) → m' ≡ store_all m a (w0 ∷ w1 ∷ w2 ∷ w3 ∷ [])
    → store_all m a (w0 ∷ w1 ∷ w2 ∷ w3 ∷ ws) ≡ store_all m' (a + 4) ws
four_more m m' a w0 w1 w2 w3 ws e = store_append (w0 ∷ w1 ∷ w2 ∷ w3 ∷ []) m a ws ∙ ap (λ (l : List ℕ). store_all l (a + 4) ws) (sym e)

-- the segments of the queues, one after the other
pub all_emptied : (m : List ℕ) → segmented m ≡ done_below (λ m s. store_all m (address (segment s 0)) empty_segment) 4 m
unfolding done_below segmented
all_emptied m = refl

pub one_made : (m m1 m2 m3 : List ℕ) (s : ℕ) → m1 ≡ write m (segment s 0) 0 → m2 ≡ write m1 (segment s 1) 0 → m3 ≡ write m2 (segment s 2) NONE
    → m3 ≡ store_all m (address (segment s 0)) empty_segment
unfolding write address
one_made m m1 m2 m3 s e1 e2 e3 =
    store_three m m1 m2 m3 (448 + s * 4 + 0) 0 0 NONE e1 (e2 ∙ ap (λ (b : ℕ). store m1 b 0) (let z : 448 + s * 4 + 1 ≡ 448 + s * 4 + 0 + 1 = omega arith in z))
    (e3 ∙ ap (λ (b : ℕ). store m2 b NONE) (let z : 448 + s * 4 + 2 ≡ 448 + s * 4 + 0 + 2 = omega arith in z))

-- the views of the top
views_made : (m m1 m2 m3 m4 m5 m6 m7 : List ℕ) → m1 ≡ store_all m (address (task 0 16)) (0 ∷ 1 ∷ 2 ∷ 3 ∷ [])
    → m2 ≡ store_all m1 (address (task 0 20)) (NONE ∷ NONE ∷ NONE ∷ NONE ∷ []) → m3 ≡ store_all m2 (address (task 0 24)) (NL ∷ NL ∷ NL ∷ NL ∷ [])
    → m4 ≡ store_all m3 (address (task 0 28)) (NONE ∷ NONE ∷ NONE ∷ NONE ∷ []) → m5 ≡ store_all m4 (address (task 0 32)) (NONE ∷ NONE ∷ NONE ∷ NONE ∷ [])
    → m6 ≡ store_all m5 (address (task 0 36)) (0 ∷ 1 ∷ 2 ∷ 3 ∷ []) → m7 ≡ store_all m6 (address (task 0 40)) (NONE ∷ NONE ∷ NONE ∷ NONE ∷ [])
    → m7 ≡ store_all m (address (task 0 16)) top_views
unfolding address
views_made m m1 m2 m3 m4 m5 m6 m7 e1 e2 e3 e4 e5 e6 e7 =
    sym
    (four_more m m1 1488 0 1 2 3 _ e1
    ∙ four_more m1 m2 1492 NONE NONE NONE NONE _ e2
    ∙ four_more m2 m3 1496 NL NL NL NL _ e3
    ∙ four_more m3 m4 1500 NONE NONE NONE NONE _ e4
    ∙ four_more m4 m5 1504 NONE NONE NONE NONE _ e5
    ∙ four_more m5 m6 1508 0 1 2 3 _ e6
    ∙ sym e7)

pub top_made : (m m1 m2 m3 m4 m5 m6 m7 m8 : List ℕ) → m1 ≡ store_all m (address (task 0 0)) top_links
    → m2 ≡ store_all m1 (address (task 0 16)) (0 ∷ 1 ∷ 2 ∷ 3 ∷ []) → m3 ≡ store_all m2 (address (task 0 20)) (NONE ∷ NONE ∷ NONE ∷ NONE ∷ [])
    → m4 ≡ store_all m3 (address (task 0 24)) (NL ∷ NL ∷ NL ∷ NL ∷ []) → m5 ≡ store_all m4 (address (task 0 28)) (NONE ∷ NONE ∷ NONE ∷ NONE ∷ [])
    → m6 ≡ store_all m5 (address (task 0 32)) (NONE ∷ NONE ∷ NONE ∷ NONE ∷ []) → m7 ≡ store_all m6 (address (task 0 36)) (0 ∷ 1 ∷ 2 ∷ 3 ∷ [])
    → m8 ≡ store_all m7 (address (task 0 40)) (NONE ∷ NONE ∷ NONE ∷ NONE ∷ []) → m8 ≡ topped m
unfolding topped
top_made m m1 m2 m3 m4 m5 m6 m7 m8 e1 e2 e3 e4 e5 e6 e7 e8 =
    views_made m1 m2 m3 m4 m5 m6 m7 m8 e2 e3 e4 e5 e6 e7 e8 ∙ ap (λ (l : List ℕ). store_all l (address (task 0 16)) top_views) e1

pub all_made : (m m1 m2 m3 m4 m5 : List ℕ) (l n : ℕ) → length m ≡ 16384 → m1 ≡ replicate (length m) 0 → m2 ≡ store_all m1 0 (l ∷ n ∷ (n - 4) ∷ 127 ∷ [])
    → m3 ≡ stacked n m2 → m4 ≡ segmented m3 → m5 ≡ topped m4 → m5 ≡ opened l n
unfolding opened
all_made m m1 m2 m3 m4 m5 l n s e1 e2 e3 e4 e5 =
    e5 ∙ ap topped (e4 ∙ ap segmented (e3 ∙ ap (stacked n) (e2
    ∙ ap (λ (x : List ℕ). store_all x 0 (l ∷ n ∷ (n - 4) ∷ 127 ∷ [])) (e1 ∙ ap (λ (k : ℕ). replicate k 0) s))))

pub stacks_made : (m m1 m2 : List ℕ) (n : ℕ) → m1 ≡ store_all m 64 (down (n - 4) (n - 1)) → m2 ≡ store_all m1 320 (down 127 127) → m2 ≡ stacked n m
unfolding stacked address
stacks_made m m1 m2 n e1 e2 = e2 ∙ ap (λ (l : List ℕ). store_all l 320 (down 127 127)) e1
