-- Procedures are put to their places as the rules list them, and counted as the rules count them.
use Rattle.std.proofs.Common.{◌≡◌, ℕ, zero, suc, ◌+◌, ◌==◌, Bool, true, false, cond, List, [], ◌∷◌, ◌++◌, length, refl, sym, ap, subst, ◌∙◌, arith, append_assoc, append-nil}
use Rattle.std.specs.Prelude.{slice_set}
use Rattle.std.specs.List.{fold}
use Rattle.m2_tree.specs.declared.decl.Heading.{Heading}
use Rattle.m2_tree.specs.declared.decl.Decl.{Decl, Decl-F, out-Decl}
use Rattle.m2_tree.specs.declared.decl.Decl.TheOpen as layer
use Rattle.m2_tree.specs.declared.decl.Block.{Block, out-Block}
use Rattle.typed_tree.specs.declared.typed_module.Routine.{Routine}
use Rattle.typed_tree.specs.declared.typed_module.Which.{Which}
use Rattle.typed_tree.specs.declared.typed_module.Which.TheVariants as which
use Rattle.check_block.specs.Nesting.{procedure_ends}
use Rattle.check_body.specs.declared.routine.Bodies.{Bodies}
use Rattle.check_body.specs.Routines.{begun_at, put_routine, empty_routine}
use Rattle.typed_tree.specs.Types.{integer}
use Rattle.def_typing.specs.Parts.{Among, here, later}
use Rattle.def_typing.specs.Bodies.{IsNoProcedure}
use Rattle.def_typed.specs.Numbers.{headings_by, headings_in, procedures_in, nested_by, nested_numbers, next_nested, next_inside, behind_inside}
use Rattle.def_typed.specs.Bodies.{Routines, no_routines, with_routine, first_within, next_number}
use Rattle.law_numbers.specs.Counted.{AreCounted, behind_nested}
use Rattle.law_numbers.proofs.Counting.{modules_counted, blocks_counted}
use Rattle.law_numbers.proofs.Finding.{behind_other}

fold_append : {A B : Type 0} (f : A → B → A) (a : A) (xs ys : List B) → fold f a (xs ++ ys) ≡ fold f (fold f a xs) ys
fold_append f a [] ys = refl
fold_append f a (x ∷ xs) ys = fold_append f (f a x) xs ys

-- ---- procedures at their places

abbrev put_number : List Routine → ℕ × Routine → List Routine
put_number rs x = slice_set rs x.0 x.1

-- the bodies behind those that were there
abbrev pub put_all : Bodies → Routines → Bodies
put_all b rs = record {
  procedures = fold put_number b.procedures rs.procedures;
  locals = b.locals ++ rs.locals;
  order = b.order ++ rs.order;
}

bodies_as : {p q : List Routine} {l m : List Routine} {o r : List Which} → p ≡ q → l ≡ m → o ≡ r
    → ◌≡◌ {A = Bodies} (record { procedures = p; locals = l; order = o })
    (record { procedures = q; locals = m; order = r })
bodies_as {q = q} {l = l} {m = m} {o = o} e f d =
    ap (λ (p : List Routine). let b : Bodies = record { procedures = p; locals = l; order = o } in b) e
    ∙ ap (λ (l : List Routine). let b : Bodies = record { procedures = q; locals = l; order = o } in b) f
    ∙ ap (λ (o : List Which). let b : Bodies = record { procedures = q; locals = m; order = o } in b) d

pub put_none : (b : Bodies) → b ≡ put_all b no_routines
put_none b = bodies_as refl (sym (append-nil b.locals)) (sym (append-nil b.order))

order_as : (x : Which) (o w b : List Which) → ((o ++ w) ++ x ∷ []) ++ b ≡ o ++ (w ++ x ∷ b)
order_as x o w b = append_assoc (o ++ w) (x ∷ []) b ∙ append_assoc o w (x ∷ b)

pub put_module : (b : Bodies) (n : ℕ) (r : Routine) (within behind : Routines)
    → put_all (put_routine (put_all b within) (which.Module n) r) behind
    ≡ put_all b (with_routine (which.Module n) r within behind)
put_module b n r within behind = bodies_as
    (sym (fold_append put_number b.procedures within.procedures ((n, r) ∷ behind.procedures)))
    (append_assoc b.locals within.locals behind.locals)
    (order_as _ b.order within.order behind.order)

set_there : (e r : Routine) (xs ys : List Routine) → slice_set ((xs ++ e ∷ []) ++ ys) (length xs) r ≡ xs ++ r ∷ ys
set_there e r [] ys = refl
set_there e r (x ∷ xs) ys = ap (λ (zs : List Routine). x ∷ zs) (set_there e r xs ys)

pub put_local : (b : Bodies) (e r : Routine) (within behind : Routines)
    → put_all (put_routine (put_all (record b { locals = b.locals ++ e ∷ [] }) within) (which.Local (length b.locals))
    r) behind ≡ put_all b (with_routine (which.Local (length b.locals)) r within behind)
put_local b e r within behind = bodies_as
    (sym (fold_append put_number b.procedures within.procedures behind.procedures))
    (ap (λ (ls : List Routine). ls ++ behind.locals) (set_there e r b.locals within.locals)
    ∙ append_assoc b.locals (r ∷ within.locals) behind.locals)
    (order_as _ b.order within.order behind.order)

set_length : (rs : List Routine) (n : ℕ) (r : Routine) → length (slice_set rs n r) ≡ length rs
set_length [] n r = refl
set_length (x ∷ rs) zero r = refl
set_length (x ∷ rs) (suc n) r = ap suc (set_length rs n r)

pub put_length : (b : Bodies) (w : Which) (r : Routine) → length (put_routine b w r).locals ≡ length b.locals
put_length b (which.Module n) r = refl
put_length b (which.Local n) r = set_length b.locals n r

length_last : {A : Type 0} (xs : List A) (x : A) → length (xs ++ x ∷ []) ≡ length xs + 1
length_last [] x = refl
length_last (y ∷ xs) x = let e = length_last xs x in omega (arith, e)

begun_as : (o : Bool) (b : Bodies) → length
    (cond o b (record b { locals = b.locals ++ empty_routine integer ∷ [] })).locals ≡ first_within o (length b.locals)
begun_as true b = refl
begun_as false b = length_last b.locals (empty_routine integer)

-- The first procedure within a procedure has the number of the procedures that were met.
pub begun_first : (level : ℕ) (b : Bodies)
    → length (begun_at level b).locals ≡ first_within (level == 0) (length b.locals)
begun_first level b = begun_as (level == 0) b

pub begun_module : (level : ℕ) (b : Bodies) → (level == 0) ≡ true → begun_at level b ≡ b
begun_module level b e = ap (λ (o : Bool). cond o b (record b { locals = b.locals ++ empty_routine integer ∷ [] })) e

pub begun_local : (level : ℕ) (b : Bodies) → (level == 0) ≡ false
    → begun_at level b ≡ record b { locals = b.locals ++ empty_routine integer ∷ [] }
begun_local level b e = ap (λ (o : Bool). cond o b (record b { locals = b.locals ++ empty_routine integer ∷ [] })) e

-- ---- how procedures in procedures are counted

-- what is known of the count in front of declarations that are left
abbrev pub Counts : (outermost : Bool) → (ends : List ℕ) → (first : ℕ) → (pre rest : List Decl) → (n : ℕ) → Type 0
Counts true ends first pre rest n = (ends ≡ procedure_ends (pre ++ rest)) × (n ≡ behind_inside 0 pre)
Counts false ends first pre rest n = AreCounted ends n rest × (n ≡ behind_nested first pre)

inside_one : (n : ℕ) (pre : List Decl) (d : Decl)
    → behind_inside n (pre ++ d ∷ []) ≡ next_inside (behind_inside n pre) (out-Decl d)
inside_one n [] d = refl
inside_one n (x ∷ pre) d = inside_one (next_inside n (out-Decl x)) pre d

nested_one : (n : ℕ) (pre : List Decl) (d : Decl)
    → behind_nested n (pre ++ d ∷ []) ≡ next_nested (behind_nested n pre) (out-Decl d)
nested_one n [] d = refl
nested_one n (x ∷ pre) d = nested_one (next_nested n (out-Decl x)) pre d

other_inside : (n : ℕ) (y : Decl-F Decl Block) → IsNoProcedure y → next_inside n y ≡ n
other_inside n (layer.Constants cs) i = refl
other_inside n (layer.Types ts) i = refl
other_inside n (layer.Variables vs) i = refl
other_inside n (layer.Procedure h b) i = absurd i

pub other_nested : (n : ℕ) (y : Decl-F Decl Block) → IsNoProcedure y → next_nested n y ≡ n
other_nested n (layer.Constants cs) i = refl
other_nested n (layer.Types ts) i = refl
other_nested n (layer.Variables vs) i = refl
other_nested n (layer.Procedure h b) i = absurd i

module _ (ends : List ℕ) (first : ℕ) (pre : List Decl) (d : Decl) (rest : List Decl) (n : ℕ) where
  one_on : ends ≡ procedure_ends (pre ++ d ∷ rest) → ends ≡ procedure_ends ((pre ++ d ∷ []) ++ rest)
  one_on e = e ∙ ap procedure_ends (sym (append_assoc pre (d ∷ []) rest))

  pub counts_other : (o : Bool) → IsNoProcedure (out-Decl d) → Counts o ends first pre (d ∷ rest) n
      → Counts o ends first (pre ++ d ∷ []) rest n
  counts_other true i (e, c) = (
    one_on e,
    c ∙ sym (other_inside (behind_inside 0 pre) (out-Decl d) i)
        ∙ sym (inside_one 0 pre d),
  )
  counts_other false i (e, c) = (
    behind_other ends n d rest e i,
    c
        ∙ sym (other_nested (behind_nested first pre) (out-Decl d) i) ∙ sym (nested_one first pre d),
  )

  module _ (h : Heading) (c : Block) (is : out-Decl d ≡ layer.Procedure h c) where
    pub counts_procedure : (o : Bool) → Counts o ends first pre (d ∷ rest) n
        → Counts o ends first (pre ++ d ∷ []) rest (next_number o n (out-Decl d))
    counts_procedure true (e, k) = (one_on e, ap (λ (n : ℕ). next_inside n (out-Decl d)) k ∙ sym (inside_one 0 pre d))
    counts_procedure false (e, k) = (
      subst (λ (n : ℕ). AreCounted ends n rest) (ap (λ (y : Decl-F Decl Block). next_nested n y) (sym is))
          (blocks_counted ends n d rest h c is e).1,
      ap (λ (n : ℕ). next_nested n (out-Decl d)) k ∙ sym (nested_one first pre d),
    )

    pub counts_inside : (o : Bool) → Counts o ends first pre (d ∷ rest) n
        → AreCounted ends (first_within o n) (out-Block c).decls
    counts_inside true (e, k) =
        subst (λ (n : ℕ). AreCounted ends n (out-Block c).decls) (sym k)
        (subst (λ (es : List ℕ). AreCounted es (behind_inside 0 pre) (out-Block c).decls) (sym e)
        (modules_counted pre d rest h c is))
    counts_inside false (e, k) = (blocks_counted ends n d rest h c is e).0

    pub next_is : (o : Bool) → first_within o n + procedures_in c ≡ next_number o n (out-Decl d)
    next_is true = ap (λ (y : Decl-F Decl Block). next_inside n y) (sym is)
    next_is false = ap (λ (y : Decl-F Decl Block). next_nested n y) (sym is)

among_right : {A : Type 0} {x : A} (xs : List A) {ys : List A} → Among x ys → Among x (xs ++ ys)
among_right [] m = m
among_right (z ∷ xs) m = later (among_right xs m)

module _ (d : Decl) (h : Heading) (c : Block) (is : out-Decl d ≡ layer.Procedure h c) (rest : List Decl) where
  pub heading_there : (pre : List Decl) → Among h (headings_in (pre ++ d ∷ rest))
  heading_there [] = subst (λ (y : Decl-F Decl Block). Among h (headings_by y ++ headings_in rest)) (sym is) here
  heading_there (x ∷ pre) = among_right (headings_by (out-Decl x)) (heading_there pre)

  number_here : (n : ℕ) (y : Decl-F Decl Block) → out-Decl d ≡ y → y ≡ layer.Procedure h c
      → Among (h, n) (nested_by n y ++ nested_numbers (next_nested n y) rest)
  number_here n y e q = subst (λ (y : Decl-F Decl Block). Among {A = Heading × ℕ} (h, n)
      (nested_by n y ++ nested_numbers (next_nested n y) rest)) (sym q) here

  pub number_there : (n : ℕ) (pre : List Decl) → Among (h, behind_nested n pre) (nested_numbers n (pre ++ d ∷ rest))
  number_there n [] = number_here n (out-Decl d) refl is
  number_there n (x ∷ pre) = among_right (nested_by n (out-Decl x)) (number_there (next_nested n (out-Decl x)) pre)
