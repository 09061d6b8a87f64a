-- Procedures in procedures have the numbers that are counted in the text.
use Rattle.std.proofs.Common.{map, ◌≡◌, ℕ, ◌+◌, List, [], ◌∷◌, ◌++◌, length, refl, sym, ap, ◌∙◌, append-nil, append_assoc, arith}
use Rattle.std.specs.List.{fold}
use Rattle.std.proofs.lemmas.List.{length-append}
use Rattle.m2_tree.specs.declared.decl.Heading.{Heading}
use Rattle.m2_tree.specs.declared.decl.Block.{Block, out-Block}
use Rattle.m2_tree.specs.declared.decl.Decl.{Decl, Decl-F, out-Decl}
use Rattle.m2_tree.specs.declared.decl.Decl.TheOpen as layer
use Rattle.check_block.specs.Nesting.{append_names, within_decl, within, ends_from, with_procedure_ends, with_decl_ends}
use Rattle.def_typed.specs.Numbers.{next_inside, behind_inside}
use Rattle.law_numbers.specs.Counted.{within_all, AreCounted, ModulesAreCounted, BlocksAreCounted}
use Rattle.law_numbers.proofs.Within.{within_block, procedures_counted}
use Rattle.law_numbers.proofs.Finding.{ends_append, ends_length, ends_are, behind}

-- ---- what stands within a block

all_within : (so : List ℕ) (ds : List Decl) → fold append_names so (map within_decl ds) ≡ so ++ within_all ds
all_within so [] = sym (append-nil so)
all_within so (d ∷ ds) = all_within (so ++ within_decl d) ds ∙ append_assoc so (within_decl d) (within_all ds)

block_within : (b : Block) → within b ≡ within_all (out-Block b).decls
block_within b = within_block b (out-Block b) refl ∙ all_within [] (out-Block b).decls

-- ---- in a procedure

module _ (ends : List ℕ) (n : ℕ) (d : Decl) (ds : List Decl) (h : Heading) (b : Block)
    (is : out-Decl d ≡ layer.Procedure h b) (c : AreCounted ends n (d ∷ ds)) where
  inside : AreCounted ends (n + 1) (out-Block b).decls
  inside = record {
    before = c.before ++ (n + 1 + length (within b)) ∷ [];
    after = ends_from (n + 1 + length (within b)) (within_all ds) ++ c.after;
    all = ends_are ends n d ds c h b is
        ∙ ap (λ (es : List ℕ). c.before ++ ((n + 1 + length (within b)) ∷ (es ++ c.after)))
        (ends_append (n + 1) (within b) (within_all ds))
        ∙ ap (λ (es : List ℕ). c.before ++ ((n + 1 + length (within b)) ∷ es))
        (append_assoc (ends_from (n + 1) (within b)) (ends_from (n + 1 + length (within b)) (within_all ds))
        c.after)
        ∙ sym (append_assoc c.before ((n + 1 + length (within b)) ∷ [])
        (ends_from (n + 1) (within b) ++ (ends_from (n + 1 + length (within b)) (within_all ds) ++ c.after)))
        ∙ ap (λ (ws : List ℕ). (c.before ++ (n + 1 + length (within b)) ∷ [])
        ++ (ends_from (n + 1) ws ++ (ends_from (n + 1 + length (within b)) (within_all ds) ++ c.after)))
        (block_within b);
    here = let e = length-append c.before ((n + 1 + length (within b)) ∷ []) in let h = c.here in omega (arith, e, h);
  }

pub blocks_counted : BlocksAreCounted
blocks_counted ends n d ds h b is c = (inside ends n d ds h b is c, behind ends n d ds c h b is)

-- ---- in a module

fold_append : {A B : Type 0} (f : A → B → A) (a : A) (xs ys : List B) → fold f a (xs ++ ys) ≡ fold f (fold f a xs) ys
fold_append f a [] ys = refl
fold_append f a (x ∷ xs) ys = fold_append f (f a x) xs ys

abbrev Behind : List ℕ → List ℕ → Type 0
Behind so es = (after : List ℕ) × (es ≡ so ++ after)

nothing_behind : (so : List ℕ) → Behind so so
nothing_behind so = ([], sym (append-nil so))

one_behind : (so : List ℕ) (y : Decl-F Decl Block) → Behind so (with_procedure_ends so y)
one_behind so (layer.Constants cs) = nothing_behind so
one_behind so (layer.Types ts) = nothing_behind so
one_behind so (layer.Variables vs) = nothing_behind so
one_behind so (layer.Procedure h b) = (ends_from (length so) (within b), refl)

all_behind : (so : List ℕ) (ds : List Decl) → Behind so (fold with_decl_ends so ds)
all_behind so [] = nothing_behind so
all_behind so (d ∷ ds) =
    let one = one_behind so (out-Decl d) in
    let r = all_behind (with_decl_ends so d) ds in
    (one.0 ++ r.0, r.1 ∙ ap (λ (es : List ℕ). es ++ r.0) one.1 ∙ append_assoc so one.0 r.0)

one_length : (so : List ℕ) (y : Decl-F Decl Block) → length (with_procedure_ends so y) ≡ next_inside (length so) y
one_length so (layer.Constants cs) = refl
one_length so (layer.Types ts) = refl
one_length so (layer.Variables vs) = refl
one_length so (layer.Procedure h b) = length-append so (ends_from (length so) (within b))
    ∙ ap (λ (k : ℕ). length so + k) (ends_length (length so) (within b) ∙ procedures_counted b)

all_length : (so : List ℕ) (ds : List Decl) → length (fold with_decl_ends so ds) ≡ behind_inside (length so) ds
all_length so [] = refl
all_length so (d ∷ ds) = all_length (with_decl_ends so d) ds
    ∙ ap (λ (n : ℕ). behind_inside n ds) (one_length so (out-Decl d))

module _ (pre : List Decl) (d : Decl) (post : List Decl) (h : Heading) (b : Block)
    (is : out-Decl d ≡ layer.Procedure h b) where
  abbrev so : List ℕ
  so = fold with_decl_ends [] pre

  first_is : length so ≡ behind_inside 0 pre
  first_is = all_length [] pre

  rest : Behind (with_decl_ends so d) (fold with_decl_ends (with_decl_ends so d) post)
  rest = all_behind (with_decl_ends so d) post

  counted : AreCounted (fold with_decl_ends [] (pre ++ d ∷ post)) (behind_inside 0 pre) (out-Block b).decls
  counted = record {
    before = so;
    after = rest.0;
    all = fold_append with_decl_ends [] pre (d ∷ post)
        ∙ rest.1
        ∙ ap (λ (y : Decl-F Decl Block). with_procedure_ends so y ++ rest.0) is
        ∙ append_assoc so (ends_from (length so) (within b)) rest.0
        ∙ ap (λ (ws : List ℕ). so ++ (ends_from (length so) ws ++ rest.0)) (block_within b)
        ∙ ap (λ (n : ℕ). so ++ (ends_from n (within_all (out-Block b).decls) ++ rest.0)) first_is;
    here = first_is;
  }

pub modules_counted : ModulesAreCounted
modules_counted pre d post h b is = counted pre d post h b is
