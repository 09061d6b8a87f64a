-- The numbers behind procedures in procedures.
use Rattle.std.proofs.Common.{◌≡◌, ℕ, suc, ◌+◌, ◌<◌, List, [], ◌∷◌, ◌++◌, length, refl, sym, ap, ◌∙◌, append_assoc, arith}
use Rattle.std.specs.Prelude.{slice_set}
use Rattle.std.specs.List.{fold}
use Rattle.std.proofs.lemmas.List.{append-nil, length-append}
use Rattle.std.proofs.lemmas.List.Folds.{fold-map}
use Rattle.m2_tree.specs.declared.decl.Constant.{Constant}
use Rattle.m2_tree.specs.declared.decl.TypeDecl.{TypeDecl}
use Rattle.m2_tree.specs.declared.decl.Variables.{Variables}
use Rattle.m2_tree.specs.declared.decl.Heading.{Heading}
use Rattle.m2_tree.specs.declared.decl.Decl.{Decl, Decl-F, out-Decl, map-Decl, fold_out-Decl}
use Rattle.m2_tree.specs.declared.decl.Decl.TheOpen as layer
use Rattle.m2_tree.specs.declared.decl.Decl.TheVariants as decl
use Rattle.m2_tree.specs.declared.decl.Block.{Block, out-Block, fold_out-Block}
use Rattle.check_block.specs.Nesting.{decl_layer, block_layer, append_names, within_decl, within, ends_from, with_ends, with_ends_within, with_procedure_ends, with_decl_ends}

-- ---- what stands within

abbrev Counts : Type 0
Counts = List ℕ

at : (d : Decl) (x : Decl-F Decl Block) → out-Decl d ≡ x
    → within_decl d ≡ decl_layer (map-Decl Decl Block Counts Counts within_decl within x)
unfolding within_decl within
at d x h = fold_out-Decl Counts Counts decl_layer block_layer d
    ∙ ap (λ (y : Decl-F Decl Block). decl_layer (map-Decl Decl Block Counts Counts within_decl within y)) h

within_Constants : (cs : List Constant) → within_decl (decl.Constants cs) ≡ []
within_Constants cs = at (decl.Constants cs) (layer.Constants cs) (decl.outs-Constants cs)

within_Types : (ts : List TypeDecl) → within_decl (decl.Types ts) ≡ []
within_Types ts = at (decl.Types ts) (layer.Types ts) (decl.outs-Types ts)

within_Variables : (vs : List Variables) → within_decl (decl.Variables vs) ≡ []
within_Variables vs = at (decl.Variables vs) (layer.Variables vs) (decl.outs-Variables vs)

within_Procedure : (h : Heading) (b : Block) → within_decl (decl.Procedure h b) ≡ length (within b) ∷ within b
within_Procedure h b = at (decl.Procedure h b) (layer.Procedure h b) (decl.outs-Procedure h b)

abbrev and_within : Counts → Decl → Counts
and_within so d = so ++ within_decl d

within_block : (b : Block) → within b ≡ fold and_within [] (out-Block b).decls
unfolding within_decl within
within_block b = fold_out-Block Counts Counts decl_layer block_layer b
    ∙ fold-map append_names within_decl [] (out-Block b).decls

-- ---- numbers

ends_append : (n : ℕ) (xs ys : List ℕ) → ends_from n (xs ++ ys) ≡ ends_from n xs ++ ends_from (n + length xs) ys
ends_append n [] ys = let e : n + 0 ≡ n = omega arith in ap (λ (m : ℕ). ends_from m ys) (sym e)
ends_append n (x ∷ xs) ys =
    let e : n + 1 + length xs ≡ n + suc (length xs) = omega arith in
    ap (λ (r : List ℕ). (n + 1 + x) ∷ r) (ends_append (n + 1) xs ys
    ∙ ap (λ (m : ℕ). ends_from (n + 1) xs ++ ends_from m ys) e)

ends_length : (n : ℕ) (xs : List ℕ) → length (ends_from n xs) ≡ length xs
ends_length n [] = refl
ends_length n (x ∷ xs) = ap suc (ends_length (n + 1) xs)

-- one more declaration
ends_more : (so ks ls : List ℕ) → (so ++ ends_from (length so) ks)
    ++ ends_from (length (so ++ ends_from (length so) ks)) ls ≡ so ++ ends_from (length so) (ks ++ ls)
ends_more so ks ls =
    let long : length (so ++ ends_from (length so) ks) ≡ length so + length ks =
    length-append so (ends_from (length so) ks) ∙ ap (λ (n : ℕ). length so + n) (ends_length (length so) ks) in
    ap (λ (n : ℕ). (so ++ ends_from (length so) ks) ++ ends_from n ls) long
    ∙ append_assoc so (ends_from (length so) ks) (ends_from (length so + length ks) ls)
    ∙ ap (λ (r : List ℕ). so ++ r) (sym (ends_append (length so) ks ls))

ends_folded : (so ks : List ℕ) (ds : List Decl)
    → fold with_ends_within (so ++ ends_from (length so) ks) ds ≡ so ++ ends_from (length so) (fold and_within ks ds)
ends_folded so ks [] = refl
ends_folded so ks (d ∷ ds) =
    ap (λ (r : List ℕ). fold with_ends_within r ds) (ends_more so ks (within_decl d))
    ∙ ends_folded so (ks ++ within_decl d) ds

pub ends_block : (so : List ℕ) (b : Block) → fold with_ends_within so (out-Block b).decls ≡ with_ends so b
ends_block so b =
    ap (λ (r : List ℕ). fold with_ends_within r (out-Block b).decls) (sym (append-nil so))
    ∙ ends_folded so [] (out-Block b).decls
    ∙ ap (λ (ks : List ℕ). so ++ ends_from (length so) ks) (sym (within_block b))

-- ---- the variants

none : (so ks : List ℕ) → ks ≡ [] → so ++ ends_from (length so) ks ≡ so
none so ks e = ap (λ (r : List ℕ). so ++ ends_from (length so) r) e ∙ append-nil so

pub ends_Constants : (so : List ℕ) (cs : List Constant) → with_ends_within so (decl.Constants cs) ≡ so
ends_Constants so cs = none so _ (within_Constants cs)

pub ends_Types : (so : List ℕ) (ts : List TypeDecl) → with_ends_within so (decl.Types ts) ≡ so
ends_Types so ts = none so _ (within_Types ts)

pub ends_Variables : (so : List ℕ) (vs : List Variables) → with_ends_within so (decl.Variables vs) ≡ so
ends_Variables so vs = none so _ (within_Variables vs)

pub ruleset no_ends = (ends_Constants, ends_Types, ends_Variables)

-- the place of a procedure is set when those within it are known
set_at : (old more : List ℕ) (x y : ℕ) → slice_set (old ++ x ∷ more) (length old) y ≡ old ++ y ∷ more
set_at [] more x y = refl
set_at (o ∷ old) more x y = ap (λ (r : List ℕ). o ∷ r) (set_at old more x y)

whole : (so : List ℕ) (b : Block) → with_ends (so ++ 0 ∷ []) b ≡ so ++ 0 ∷ ends_from (length so + 1) (within b)
whole so b =
    let long : length (so ++ 0 ∷ []) ≡ length so + 1 = length-append so (0 ∷ []) in
    ap (λ (n : ℕ). (so ++ 0 ∷ []) ++ ends_from n (within b)) long
    ∙ append_assoc so (0 ∷ []) (ends_from (length so + 1) (within b))

pub ends_set : (so mid new end : List ℕ) (place last : ℕ) (d : Decl) (h : Heading) (b held : Block) (ds : List Decl)
    → d ≡ decl.Procedure h b → held ≡ b → ds ≡ (out-Block held).decls
    → place ≡ length so → mid ≡ so ++ 0 ∷ [] → new ≡ fold with_ends_within mid ds → last ≡ length new
    → end ≡ slice_set new place last
    → end ≡ with_ends_within so d
ends_set so mid new end place last d h b held ds i j k p m n l e =
    let r : List ℕ = ends_from (length so + 1) (within b) in
    let same : ds ≡ (out-Block b).decls = k ∙ ap (λ (x : Block). (out-Block x).decls) j in
    let all : new ≡ so ++ 0 ∷ r = n ∙ ap (λ (x : List Decl). fold with_ends_within mid x) same
    ∙ ap (λ (x : List ℕ). fold with_ends_within x (out-Block b).decls) m ∙ ends_block (so ++ 0 ∷ []) b
    ∙ whole so b in
    let sum : length so + suc (length (within b)) ≡ length so + 1 + length (within b) = omega arith in
    let long : length new ≡ length so + 1 + length (within b) =
    ap length all ∙ length-append so (0 ∷ r)
    ∙ ap (λ (x : ℕ). length so + suc x) (ends_length (length so + 1) (within b)) ∙ sum in
    e ∙ ap (λ (x : ℕ). slice_set new x last) p ∙ ap (λ (x : ℕ). slice_set new (length so) x) (l ∙ long)
    ∙ ap (λ (x : List ℕ). slice_set x (length so) (length so + 1 + length (within b))) all
    ∙ set_at so r 0 (length so + 1 + length (within b))
    ∙ sym (ap (λ (ks : List ℕ). so ++ ends_from (length so) ks) (within_Procedure h b))
    ∙ sym (ap (λ (x : Decl). with_ends_within so x) i)

-- the list only grows
ends_grown : (so : List ℕ) (ds : List Decl)
    → fold with_ends_within so ds ≡ so ++ ends_from (length so) (fold and_within [] ds)
ends_grown so ds = ap (λ (r : List ℕ). fold with_ends_within r ds) (sym (append-nil so)) ∙ ends_folded so [] ds

pub ends_reach : (so mid new : List ℕ) (place : ℕ) (ds : List Decl) → place ≡ length so → mid ≡ so ++ 0 ∷ []
    → new ≡ fold with_ends_within mid ds → place < length new
ends_reach so mid new place ds p m n =
    let r : List ℕ = ends_from (length mid) (fold and_within [] ds) in
    let long : length new ≡ length mid + length r = ap length (n ∙ ends_grown mid ds) ∙ length-append mid r in
    let first : length mid ≡ length so + 1 = ap length m ∙ length-append so (0 ∷ []) in
    omega (arith, p, long, first)

pub ends_decl : (so new : List ℕ) (d : Decl) (h : Heading) (b held : Block) (ds : List Decl)
    → d ≡ decl.Procedure h b → held ≡ b → ds ≡ (out-Block held).decls → new ≡ fold with_ends_within so ds
    → new ≡ with_decl_ends so d
ends_decl so new d h b held ds i j k n =
    n ∙ ap (λ (x : List Decl). fold with_ends_within so x) (k ∙ ap (λ (x : Block). (out-Block x).decls) j)
    ∙ ends_block so b
    ∙ ap (λ (x : Decl-F Decl Block). with_procedure_ends so x) (sym (decl.outs-Procedure h b))
    ∙ ap (λ (x : Decl). with_decl_ends so x) (sym i)
