-- What sums of weights come to, in each of the three ways.
use Rattle.std.proofs.Common.{◌≡◌, ℕ, ◌≤◌, List, [], ◌∷◌, ◌++◌, Result, refl, arith}
use Rattle.std.specs.Prelude.{map}
use Rattle.check_scope.specs.Elaborated.{Gathers, both}
use Rattle.law_encoding.specs.Counted.{AtMost, fine, broken}
use Rattle.law_encoding.proofs.Sums.{total_map, sum_append}
use Rattle.law_encoding.proofs.Deepest.{deepest_map, deepest_append}
use Rattle.law_encoding.proofs.Ways.{Way, by_size, by_depth, by_distance, ◌⊕⟨◌⟩◌, node, up, operand, second, in_if}
use Rattle.law_encoding.proofs.Ways.{in_case, in_loop, control, labels, all_of, total_of, arguments}

-- ---- lists

pub none_of : {A : Type 0} (w : Way) (f : A → ℕ) → all_of w f [] ≡ 0
none_of by_size f = refl
none_of by_depth f = refl
none_of (by_distance level) f = refl

pub one_alone : {A : Type 0} (w : Way) (f : A → ℕ) (x : A) → all_of w f (x ∷ []) ≡ f x
one_alone by_size f x = omega arith
one_alone by_depth f x = omega arith
one_alone (by_distance level) f x = omega arith

pub all_pushed : {A : Type 0} (w : Way) (f : A → ℕ) (xs : List A) (x : A)
    → all_of w f (xs ++ x ∷ []) ≡ all_of w f xs ⊕⟨ w ⟩ f x
all_pushed by_size f xs x = omega (arith, sum_append f xs (x ∷ []))
all_pushed by_depth f xs x = omega (arith, deepest_append f xs (x ∷ []))
all_pushed (by_distance level) f xs x = omega (arith, deepest_append f xs (x ∷ []))

pub no_more : {A : Type 0} (w : Way) (f : A → ℕ) (k : ℕ) → k ≤ k ⊕⟨ w ⟩ all_of w f []
no_more by_size f k = omega arith
no_more by_depth f k = omega arith
no_more (by_distance level) f k = omega arith

pub sum_again : {A : Type 0} (w : Way) (f : A → ℕ) (k : ℕ) (x : A) (xs : List A)
    → k ⊕⟨ w ⟩ f x ⊕⟨ w ⟩ all_of w f xs ≤ k ⊕⟨ w ⟩ all_of w f (x ∷ xs)
sum_again by_size f k x xs = omega arith
sum_again by_depth f k x xs = omega arith
sum_again (by_distance level) f k x xs = omega arith

pub none_left : (w : Way) (k : ℕ) → k ≤ k ⊕⟨ w ⟩ total_of w []
none_left by_size k = omega arith
none_left by_depth k = omega arith
none_left (by_distance level) k = omega arith

pub all_again : (w : Way) (k n : ℕ) (ns : List ℕ) → k ⊕⟨ w ⟩ n ⊕⟨ w ⟩ total_of w ns ≤ k ⊕⟨ w ⟩ total_of w (n ∷ ns)
all_again by_size k n ns = omega arith
all_again by_depth k n ns = omega arith
all_again (by_distance level) k n ns = omega arith

pub total_all : {A : Type 0} (w : Way) (f : A → ℕ) (xs : List A) → total_of w (map f xs) ≡ all_of w f xs
total_all by_size f xs = total_map f xs
total_all by_depth f xs = deepest_map f xs
total_all (by_distance level) f xs = deepest_map f xs

-- ---- arguments of standard functions and procedures

pub only_one : (w : Way) (k n : ℕ) (ns : List ℕ) → node w ⊕⟨ w ⟩ n ≤ node w ⊕⟨ w ⟩ (k ⊕⟨ w ⟩ arguments w (n ∷ ns))
only_one by_size k n ns = omega arith
only_one by_depth k n ns = omega arith
only_one (by_distance level) k n ns = omega arith

pub second_one : (w : Way) (k m n : ℕ) (ns : List ℕ)
    → node w ⊕⟨ w ⟩ n ≤ node w ⊕⟨ w ⟩ (k ⊕⟨ w ⟩ arguments w (m ∷ n ∷ ns))
second_one by_size k m n ns = omega arith
second_one by_depth k m n ns = omega arith
second_one (by_distance level) k m n ns = omega arith

pub argument_in : (w : Way) (a k n : ℕ) (ns : List ℕ) → a ≤ n → a ≤ k ⊕⟨ w ⟩ arguments w (n ∷ ns)
argument_in by_size a k n ns h = omega (arith, h)
argument_in by_depth a k n ns h = omega (arith, h)
argument_in (by_distance level) a k n ns h = omega (arith, h)

pub one_sum : (w : Way) (k n : ℕ) (ns : List ℕ)
    → node w ⊕⟨ w ⟩ (n ⊕⟨ w ⟩ node w) ≤ node w ⊕⟨ w ⟩ (k ⊕⟨ w ⟩ arguments w (n ∷ ns))
one_sum by_size k n ns = omega arith
one_sum by_depth k n ns = omega arith
one_sum (by_distance level) k n ns = omega arith

pub two_sum : (w : Way) (k n m : ℕ) (ns : List ℕ)
    → node w ⊕⟨ w ⟩ (n ⊕⟨ w ⟩ m) ≤ node w ⊕⟨ w ⟩ (k ⊕⟨ w ⟩ arguments w (n ∷ m ∷ ns))
two_sum by_size k n m ns = omega arith
two_sum by_depth k n m ns = omega arith
two_sum (by_distance level) k n m ns = omega arith

pub put_sum : (w : Way) (a e k n : ℕ) (ns : List ℕ) → a ≡ node w ⊕⟨ w ⟩ e → e ≤ n
    → a ≤ node w ⊕⟨ w ⟩ (k ⊕⟨ w ⟩ arguments w (n ∷ ns))
put_sum by_size a e k n ns h i = omega (arith, h, i)
put_sum by_depth a e k n ns h i = omega (arith, h, i)
put_sum (by_distance level) a e k n ns h i = omega (arith, h, i)

-- ---- two parts

pub both_less : (w : Way) (a b c d : ℕ) → a ≤ b → c ≤ d → a ⊕⟨ w ⟩ c ≤ b ⊕⟨ w ⟩ d
both_less by_size a b c d h i = omega (arith, h, i)
both_less by_depth a b c d h i = omega (arith, h, i)
both_less (by_distance level) a b c d h i = omega (arith, h, i)

pub second_part : (w : Way) (a n : ℕ) → 0 ⊕⟨ w ⟩ a ≤ 0 ⊕⟨ w ⟩ n → a ≤ n
second_part by_size a n h = omega (arith, h)
second_part by_depth a n h = omega (arith, h)
second_part (by_distance level) a n h = omega (arith, h)

pub from_none : (w : Way) (n : ℕ) → 0 ⊕⟨ w ⟩ n ≤ n
from_none by_size n = omega arith
from_none by_depth n = omega arith
from_none (by_distance level) n = omega arith

pub under : (w : Way) (a b n : ℕ) → a ≡ b → b ≤ n → a ≤ node w ⊕⟨ w ⟩ n
under by_size a b n h i = omega (arith, h, i)
under by_depth a b n h i = omega (arith, h, i)
under (by_distance level) a b n h i = omega (arith, h, i)

pub more : (w : Way) (a b n : ℕ) → a ≡ node w ⊕⟨ w ⟩ b → b ≤ n → a ≤ node w ⊕⟨ w ⟩ n
more by_size a b n h i = omega (arith, h, i)
more by_depth a b n h i = omega (arith, h, i)
more (by_distance level) a b n h i = omega (arith, h, i)

pub one_at_least : (w : Way) (n : ℕ) → node w ≤ node w ⊕⟨ w ⟩ n
one_at_least by_size n = omega arith
one_at_least by_depth n = omega arith
one_at_least (by_distance level) n = omega arith

pub one_more : (w : Way) (n : ℕ) → n ≤ node w ⊕⟨ w ⟩ n
one_more by_size n = omega arith
one_more by_depth n = omega arith
one_more (by_distance level) n = omega arith

pub one_of : (w : Way) (a n : ℕ) → a ≡ node w → a ≤ node w ⊕⟨ w ⟩ n
one_of by_size a n h = omega (arith, h)
one_of by_depth a n h = omega (arith, h)
one_of (by_distance level) a n h = omega (arith, h)

pub one_of_two : (w : Way) (n : ℕ) → node w ⊕⟨ w ⟩ node w ≤ n → node w ≤ n
one_of_two by_size n h = omega (arith, h)
one_of_two by_depth n h = omega (arith, h)
one_of_two (by_distance level) n h = omega (arith, h)

-- ---- chains and components

pub one_link : (w : Way) (n e s l : ℕ) → n ≡ node w ⊕⟨ w ⟩ e ⊕⟨ w ⟩ s → s ≡ l → n ≤ node w ⊕⟨ w ⟩ e ⊕⟨ w ⟩ l
one_link by_size n e s l h i = omega (arith, h, i)
one_link by_depth n e s l h i = omega (arith, h, i)
one_link (by_distance level) n e s l h i = omega (arith, h, i)

pub longer : (w : Way) (n e a s l k : ℕ) → n ≡ node w ⊕⟨ w ⟩ a ⊕⟨ w ⟩ s → s ≡ k ⊕⟨ w ⟩ l → e ≡ node w ⊕⟨ w ⟩ a ⊕⟨ w ⟩ k
    → n ≤ node w ⊕⟨ w ⟩ e ⊕⟨ w ⟩ l
longer by_size n e a s l k h i j = omega (arith, h, i, j)
longer by_depth n e a s l k h i j = omega (arith, h, i, j)
longer (by_distance level) n e a s l k h i j = omega (arith, h, i, j)

pub behind_step : (w : Way) (r n d s c k : ℕ) → n ≡ node w ⊕⟨ w ⟩ r ⊕⟨ w ⟩ s → s ≡ k ⊕⟨ w ⟩ c
    → d ≡ node w ⊕⟨ w ⟩ r ⊕⟨ w ⟩ k → n ≡ d ⊕⟨ w ⟩ c
behind_step by_size r n d s c k h i j = omega (arith, h, i, j)
behind_step by_depth r n d s c k h i j = omega (arith, h, i, j)
behind_step (by_distance level) r n d s c k h i j = omega (arith, h, i, j)

pub rooted_step : (w : Way) (n r s : ℕ) → n ≡ node w ⊕⟨ w ⟩ r ⊕⟨ w ⟩ s → s ≡ 0 → n ≡ node w ⊕⟨ w ⟩ r
rooted_step by_size n r s h i = omega (arith, h, i)
rooted_step by_depth n r s h i = omega (arith, h, i)
rooted_step (by_distance level) n r s h i = omega (arith, h, i)

pub one_component : (w : Way) (a d c n : ℕ) → a ≡ d ⊕⟨ w ⟩ c → c ≡ node w → node w ⊕⟨ w ⟩ d ≤ n
    → node w ⊕⟨ w ⟩ a ≤ node w ⊕⟨ w ⟩ n
one_component by_size a d c n h i j = omega (arith, h, i, j)
one_component by_depth a d c n h i j = omega (arith, h, i, j)
one_component (by_distance level) a d c n h i j = omega (arith, h, i, j)

pub element_sum : (w : Way) (a d c x s n k : ℕ) → a ≡ d ⊕⟨ w ⟩ c → c ≡ node w ⊕⟨ w ⟩ x → node w ⊕⟨ w ⟩ d ≡ s
    → s ⊕⟨ w ⟩ k ≤ n → x ≤ k → node w ⊕⟨ w ⟩ a ≤ node w ⊕⟨ w ⟩ n
element_sum by_size a d c x s n k h i j q p = omega (arith, h, i, j, q, p)
element_sum by_depth a d c x s n k h i j q p = omega (arith, h, i, j, q, p)
element_sum (by_distance level) a d c x s n k h i j q p = omega (arith, h, i, j, q, p)

pub open_sum : (w : Way) (u a d c x n k : ℕ) → a ≡ d ⊕⟨ w ⟩ c → c ≡ node w ⊕⟨ w ⟩ up w u ⊕⟨ w ⟩ x
    → d ≡ node w ⊕⟨ w ⟩ up w u → node w ⊕⟨ w ⟩ (node w ⊕⟨ w ⟩ up w u) ⊕⟨ w ⟩ k ≤ n → x ≤ k
    → node w ⊕⟨ w ⟩ a ≤ node w ⊕⟨ w ⟩ n
open_sum by_size u a d c x n k h i j q p = omega (arith, h, i, j, q, p)
open_sum by_depth u a d c x n k h i j q p = omega (arith, h, i, j, q, p)
open_sum (by_distance level) u a d c x n k h i j q p = omega (arith, h, i, j, q, p)

-- ---- operators

pub operand_less : (w : Way) (a n : ℕ) → a ≤ n → operand w a ≤ operand w n
operand_less by_size a n h = omega (arith, h)
operand_less by_depth a n h = omega (arith, h)
operand_less (by_distance level) a n h = omega (arith, h)

pub join : (w : Way) (a x y l n : ℕ) → a ≤ node w ⊕⟨ w ⟩ x ⊕⟨ w ⟩ l → l ≡ operand w y → x ⊕⟨ w ⟩ operand w y ≤ n
    → a ≤ node w ⊕⟨ w ⟩ n
join by_size a x y l n h i j = omega (arith, h, i, j)
join by_depth a x y l n h i j = omega (arith, h, i, j)
join (by_distance level) a x y l n h i j = omega (arith, h, i, j)

pub pair : (w : Way) (a x y n : ℕ) → a ≡ node w ⊕⟨ w ⟩ x ⊕⟨ w ⟩ y → x ⊕⟨ w ⟩ operand w y ≤ n → a ≤ node w ⊕⟨ w ⟩ n
pair by_size a x y n h i = omega (arith, h, i)
pair by_depth a x y n h i = omega (arith, h, i)
pair (by_distance level) a x y n h i = omega (arith, h, i)

pub operands_less : (w : Way) (a b c d n : ℕ) → a ≤ b → c ≤ d → b ⊕⟨ w ⟩ operand w d ≤ n → a ⊕⟨ w ⟩ operand w c ≤ n
operands_less by_size a b c d n h i j = omega (arith, h, i, j)
operands_less by_depth a b c d n h i j = omega (arith, h, i, j)
operands_less (by_distance level) a b c d n h i j = omega (arith, h, i, j)

pub first_less : (w : Way) (a b c n : ℕ) → a ≤ b → b ⊕⟨ w ⟩ c ≤ n → a ⊕⟨ w ⟩ c ≤ n
first_less by_size a b c n h i = omega (arith, h, i)
first_less by_depth a b c n h i = omega (arith, h, i)
first_less (by_distance level) a b c n h i = omega (arith, h, i)

pub second_less : (w : Way) (a b c n : ℕ) → b ≤ c → a ⊕⟨ w ⟩ operand w c ≤ n → a ⊕⟨ w ⟩ operand w b ≤ n
second_less by_size a b c n h i = omega (arith, h, i)
second_less by_depth a b c n h i = omega (arith, h, i)
second_less (by_distance level) a b c n h i = omega (arith, h, i)

pub known_less : (w : Way) (a b c n : ℕ) → a ≡ node w → b ≤ c → node w ⊕⟨ w ⟩ operand w c ≤ n → a ⊕⟨ w ⟩ operand w b ≤ n
known_less by_size a b c n h i j = omega (arith, h, i, j)
known_less by_depth a b c n h i j = omega (arith, h, i, j)
known_less (by_distance level) a b c n h i j = omega (arith, h, i, j)

pub two_more : (w : Way) (k n : ℕ) → node w ⊕⟨ w ⟩ (k ⊕⟨ w ⟩ operand w n) ≤ k ⊕⟨ w ⟩ second w n
two_more by_size k n = omega arith
two_more by_depth k n = omega arith
two_more (by_distance level) k n = omega arith

-- ---- calls

pub high_sum : (w : Way) (a u n : ℕ) → a ≡ node w ⊕⟨ w ⟩ u → node w ⊕⟨ w ⟩ (node w ⊕⟨ w ⟩ u) ≤ n → a ≤ node w ⊕⟨ w ⟩ n
high_sum by_size a u n h i = omega (arith, h, i)
high_sum by_depth a u n h i = omega (arith, h, i)
high_sum (by_distance level) a u n h i = omega (arith, h, i)

pub call_sum : (w : Way) (a c b l k n : ℕ) → a ≡ node w ⊕⟨ w ⟩ c → c ≡ b ⊕⟨ w ⟩ l → b ≤ k → l ≤ 0 ⊕⟨ w ⟩ n
    → a ≤ node w ⊕⟨ w ⟩ (k ⊕⟨ w ⟩ n)
call_sum by_size a c b l k n h i j q = omega (arith, h, i, j, q)
call_sum by_depth a c b l k n h i j q = omega (arith, h, i, j, q)
call_sum (by_distance level) a c b l k n h i j q = omega (arith, h, i, j, q)

pub done_sum : (w : Way) (a c b l k n : ℕ) → a ≡ c → c ≡ b ⊕⟨ w ⟩ l → b ≤ k → l ≤ 0 ⊕⟨ w ⟩ n
    → a ≤ node w ⊕⟨ w ⟩ (k ⊕⟨ w ⟩ n)
done_sum by_size a c b l k n h i j q = omega (arith, h, i, j, q)
done_sum by_depth a c b l k n h i j q = omega (arith, h, i, j, q)
done_sum (by_distance level) a c b l k n h i j q = omega (arith, h, i, j, q)

-- ---- assignments, and standard procedures

pub assign_sum : (w : Way) (a d e n k : ℕ) → a ≡ node w ⊕⟨ w ⟩ d ⊕⟨ w ⟩ e → node w ⊕⟨ w ⟩ d ≤ n → e ≤ k → a ≤ n ⊕⟨ w ⟩ k
assign_sum by_size a d e n k h i j = omega (arith, h, i, j)
assign_sum by_depth a d e n k h i j = omega (arith, h, i, j)
assign_sum (by_distance level) a d e n k h i j = omega (arith, h, i, j)

pub copy_sum : (w : Way) (a d e n k : ℕ) → a ≡ node w ⊕⟨ w ⟩ d ⊕⟨ w ⟩ e → node w ⊕⟨ w ⟩ d ≤ n → node w ⊕⟨ w ⟩ e ≤ k
    → a ≤ n ⊕⟨ w ⟩ k
copy_sum by_size a d e n k h i j = omega (arith, h, i, j)
copy_sum by_depth a d e n k h i j = omega (arith, h, i, j)
copy_sum (by_distance level) a d e n k h i j = omega (arith, h, i, j)

pub text_sum : (w : Way) (a d n k : ℕ) → a ≡ node w ⊕⟨ w ⟩ d → node w ⊕⟨ w ⟩ d ≤ n → a ≤ n ⊕⟨ w ⟩ k
text_sum by_size a d n k h i = omega (arith, h, i)
text_sum by_depth a d n k h i = omega (arith, h, i)
text_sum (by_distance level) a d n k h i = omega (arith, h, i)

pub change_sum : (w : Way) (a d e n : ℕ) → a ≡ node w ⊕⟨ w ⟩ node w ⊕⟨ w ⟩ d ⊕⟨ w ⟩ e → node w ⊕⟨ w ⟩ d ⊕⟨ w ⟩ e ≤ n
    → a ≤ node w ⊕⟨ w ⟩ n
change_sum by_size a d e n h i = omega (arith, h, i)
change_sum by_depth a d e n h i = omega (arith, h, i)
change_sum (by_distance level) a d e n h i = omega (arith, h, i)

-- ---- statements around others

pub if_sum : (w : Way) (a c b r n m k : ℕ) → a ≡ in_if w (c ⊕⟨ w ⟩ b ⊕⟨ w ⟩ r)
    → c ⊕⟨ w ⟩ (b ⊕⟨ w ⟩ r) ≤ n ⊕⟨ w ⟩ (m ⊕⟨ w ⟩ k) → a ≤ in_if w (n ⊕⟨ w ⟩ m ⊕⟨ w ⟩ k)
if_sum by_size a c b r n m k h i = omega (arith, h, i)
if_sum by_depth a c b r n m k h i = omega (arith, h, i)
if_sum (by_distance level) a c b r n m k h i = omega (arith, h, i)

pub case_sum : (w : Way) (a c b r n m k : ℕ) → a ≡ in_case w (c ⊕⟨ w ⟩ b ⊕⟨ w ⟩ r)
    → c ⊕⟨ w ⟩ (b ⊕⟨ w ⟩ r) ≤ n ⊕⟨ w ⟩ (m ⊕⟨ w ⟩ k) → a ≤ in_case w (n ⊕⟨ w ⟩ m ⊕⟨ w ⟩ k)
case_sum by_size a c b r n m k h i = omega (arith, h, i)
case_sum by_depth a c b r n m k h i = omega (arith, h, i)
case_sum (by_distance level) a c b r n m k h i = omega (arith, h, i)

pub while_sum : (w : Way) (a c b n m : ℕ) → a ≡ in_loop w (c ⊕⟨ w ⟩ b) → c ⊕⟨ w ⟩ b ≤ n ⊕⟨ w ⟩ m
    → a ≤ in_loop w (n ⊕⟨ w ⟩ m)
while_sum by_size a c b n m h i = omega (arith, h, i)
while_sum by_depth a c b n m h i = omega (arith, h, i)
while_sum (by_distance level) a c b n m h i = omega (arith, h, i)

pub repeat_sum : (w : Way) (a c b n m : ℕ) → a ≡ in_if w (c ⊕⟨ w ⟩ b) → c ⊕⟨ w ⟩ b ≤ n ⊕⟨ w ⟩ m
    → a ≤ in_if w (n ⊕⟨ w ⟩ m)
repeat_sum by_size a c b n m h i = omega (arith, h, i)
repeat_sum by_depth a c b n m h i = omega (arith, h, i)
repeat_sum (by_distance level) a c b n m h i = omega (arith, h, i)

pub loop_sum : (w : Way) (a b n : ℕ) → a ≡ in_loop w b → b ≤ n → a ≤ in_loop w n
loop_sum by_size a b n h i = omega (arith, h, i)
loop_sum by_depth a b n h i = omega (arith, h, i)
loop_sum (by_distance level) a b n h i = omega (arith, h, i)

pub for_sum : (w : Way) (a d x y b c n k m : ℕ) → a ≡ in_loop w (control w d ⊕⟨ w ⟩ x ⊕⟨ w ⟩ y ⊕⟨ w ⟩ b)
    → control w d ⊕⟨ w ⟩ x ⊕⟨ w ⟩ (y ⊕⟨ w ⟩ 0) ⊕⟨ w ⟩ b ≤ c ⊕⟨ w ⟩ n ⊕⟨ w ⟩ (k ⊕⟨ w ⟩ 0) ⊕⟨ w ⟩ m
    → a ≤ in_loop w (c ⊕⟨ w ⟩ n ⊕⟨ w ⟩ k ⊕⟨ w ⟩ m)
for_sum by_size a d x y b c n k m h i = omega (arith, h, i)
for_sum by_depth a d x y b c n k m h i = omega (arith, h, i)
for_sum (by_distance level) a d x y b c n k m h i = omega (arith, h, i)

pub labels_less : (w : Way) (a n : ℕ) → a ≤ n → labels w a ≤ labels w n
labels_less by_size a n h = omega (arith, h)
labels_less by_depth a n h = omega (arith, h)
labels_less (by_distance level) a n h = omega (arith, h)

-- ---- results

module _ (g : Gathers) (w : Way) where
  pub both_most : {A B : Type 0} {f : A → ℕ} {h : B → ℕ} {n k : ℕ} {a : Result A g.Reported} {b : Result B g.Reported}
      → AtMost f n a → AtMost h k b
      → AtMost (λ (x : A × B). f x.0 ⊕⟨ w ⟩ h x.1) (n ⊕⟨ w ⟩ k) (both g a b)
  both_most {f = f} {h = h} {n = n} {k = k} (fine x p) (fine y q) = fine (x, y) (both_less w (f x) n (h y) k p q)
  both_most (fine x p) (broken e) = broken e
  both_most (broken e) (fine y q) = broken e
  both_most (broken e) (broken f) = broken (g.join e f)
