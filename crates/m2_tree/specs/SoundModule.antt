-- The tests of declarations and modules.
use Rattle.std.proofs.Common.{◌≡◌, Bool, true, false, ◌&&◌, List, Option, sym, ap, subst, ◌∙◌}
use Rattle.std.specs.Cmp.{first_so, second_so}
use Rattle.std.specs.Cmp.Lexicographic.{pointwise}
use Rattle.std.specs.Option.{option_eq}
use mathlib.Core.List.{map}
use denote.Hole.Carrier.{Values}
use denote.Hole.Compared.{compared, compared_is}
use denote.Enum.Compared.{Each, by}
use Rattle.m2_tree.specs.declared.stmt.Stmt.{Stmt}
use Rattle.m2_tree.specs.declared.decl.Section.{Section}
use Rattle.m2_tree.specs.declared.decl.Heading.{Heading}
use Rattle.m2_tree.specs.declared.decl.Constant.{Constant}
use Rattle.m2_tree.specs.declared.decl.TypeDecl.{TypeDecl}
use Rattle.m2_tree.specs.declared.decl.Variables.{Variables}
use Rattle.m2_tree.specs.declared.decl.Import.{Import}
use Rattle.m2_tree.specs.declared.decl.Module.{Module}
use Rattle.m2_tree.specs.declared.decl.Def.{Def}
use Rattle.m2_tree.specs.declared.decl.Def.TheVariants as variant
use Rattle.m2_tree.specs.declared.decl.Contents.{Contents}
use Rattle.m2_tree.specs.declared.decl.Contents.TheVariants.{Definition, Implementation, Program}
use Rattle.m2_tree.specs.contracts.decl.Def as def_enum
use Rattle.m2_tree.specs.contracts.decl.DefPartialEq.TheImpl as DefEq
use Rattle.m2_tree.specs.contracts.decl.Contents as contents_enum
use Rattle.m2_tree.specs.contracts.decl.ContentsPartialEq.TheImpl as ContentsEq
use Rattle.m2_tree.specs.declared.decl.Decl.{Decl, Decl-F, out-Decl, roll-Decl, out-roll-Decl, roll-out-Decl, ind-Decl}
use Rattle.m2_tree.specs.declared.decl.Decl.TheFolds.{map-Decl, map-Block}
use Rattle.m2_tree.specs.declared.decl.Decl.TheOpen as layer
use Rattle.m2_tree.specs.declared.decl.Decl.TheBlock.{the_members, the_sigs, the_carrier, the_depth, member-Decl, member-Block, split-Decl, join-Decl, join-split-Decl}
use Rattle.m2_tree.specs.declared.decl.Block.{Block, Block-F, out-Block, roll-Block, out-roll-Block, roll-out-Block, ind-Block}
use Rattle.m2_tree.specs.contracts.decl.Decl.{the_parts}
use Rattle.m2_tree.specs.contracts.decl.DeclPartialEq.TheImpl.{the_step}
use Rattle.m2_tree.specs.contracts.decl.DeclPartialEq.TheImpl.Laws.{local}
use Rattle.m2_tree.specs.Sound.{Sound, Fine, variants, list, all, option, one, two}
use Rattle.m2_tree.specs.SoundLeaves.{eq_ident, ident}
use Rattle.m2_tree.specs.SoundExpr.{eq_expr, expr}
use Rattle.m2_tree.specs.SoundTypes.{eq_flag, eq_qualified, eq_formal, eq_type, flag, qualified, formal, type_of}
use Rattle.m2_tree.specs.SoundStmt.{eq_stmt, stmt}

abbrev eq_section : Section → Section → Bool
eq_section a b =
    eq_flag a.is_var b.is_var && (pointwise eq_ident a.names b.names && eq_formal a.of b.of)

section : (a : Section) → Sound eq_section a
section a b h =
    let s = eq_flag a.is_var b.is_var in
    let t = pointwise eq_ident a.names b.names in
    let u = eq_formal a.of b.of in
    let rest = second_so s (t && u) h in
    let p = flag a.is_var b.is_var (first_so s (t && u) h) in
    let q = all eq_ident ident a.names b.names (first_so t u rest) in
    let r = formal a.of b.of (second_so t u rest) in
    λ i. record { is_var = p i; names = q i; of = r i }

abbrev eq_heading : Heading → Heading → Bool
eq_heading a b =
    eq_ident a.name b.name && (pointwise eq_section a.formals b.formals
    && option_eq eq_qualified a.result b.result)

heading : (a : Heading) → Sound eq_heading a
heading a b h =
    let s = eq_ident a.name b.name in
    let t = pointwise eq_section a.formals b.formals in
    let u = option_eq eq_qualified a.result b.result in
    let rest = second_so s (t && u) h in
    let p = ident a.name b.name (first_so s (t && u) h) in
    let q = all eq_section section a.formals b.formals (first_so t u rest) in
    let r = option eq_qualified qualified a.result b.result (second_so t u rest) in
    λ i. record { name = p i; formals = q i; result = r i }

abbrev eq_constant : Constant → Constant → Bool
eq_constant a b = eq_ident a.name b.name && eq_expr a.value b.value

constant : (a : Constant) → Sound eq_constant a
constant a b h =
    let s = eq_ident a.name b.name in
    let t = eq_expr a.value b.value in
    let p = ident a.name b.name (first_so s t h) in
    let q = expr a.value b.value (second_so s t h) in
    λ i. record { name = p i; value = q i }

abbrev eq_type_decl : TypeDecl → TypeDecl → Bool
eq_type_decl a b = eq_ident a.name b.name && eq_type a.of b.of

type_decl : (a : TypeDecl) → Sound eq_type_decl a
type_decl a b h =
    let s = eq_ident a.name b.name in
    let t = eq_type a.of b.of in
    let p = ident a.name b.name (first_so s t h) in
    let q = type_of a.of b.of (second_so s t h) in
    λ i. record { name = p i; of = q i }

abbrev eq_variables : Variables → Variables → Bool
eq_variables a b = pointwise eq_ident a.names b.names && eq_type a.of b.of

variables : (a : Variables) → Sound eq_variables a
variables a b h =
    let s = pointwise eq_ident a.names b.names in
    let t = eq_type a.of b.of in
    let p = all eq_ident ident a.names b.names (first_so s t h) in
    let q = type_of a.of b.of (second_so s t h) in
    λ i. record { names = p i; of = q i }

-- ---- declarations and blocks

abbrev V : the_members → Type 0
V = Values the_members the_sigs the_carrier

abbrev E : (j : the_members) → V j → V j → Bool
E = compared the_members V the_depth Bool true the_step

abbrev pub eq_decl : Decl → Decl → Bool
eq_decl = E member-Decl

abbrev pub eq_block : Block → Block → Bool
eq_block = E member-Block

abbrev SD : Type 0
SD = (d : Decl) × Sound eq_decl d

abbrev SB : Type 0
SB = (d : Block) × Sound eq_block d

abbrev LayerD : Type 0
LayerD = Decl-F Decl Block

abbrev bareD : Decl-F SD SB → LayerD
bareD = map-Decl SD SB Decl Block (λ e. e.0) (λ e. e.0)

abbrev each : Each Bool the_parts
each = (
  λ a b. pointwise eq_constant a.0 b.0,
  (
    λ a b. pointwise eq_type_decl a.0 b.0,
    (
      λ a b. pointwise eq_variables a.0 b.0,
      (
        λ a b. eq_heading a.0 b.0 && eq_block a.1.0 b.1.0,
        tt,
      ),
    ),
  ),
)

fineD : (y : Decl-F SD SB) → Fine the_parts each (split-Decl V (bareD y))
fineD (layer.Constants xs) = one (pointwise eq_constant) xs (all eq_constant constant xs)
fineD (layer.Types xs) = one (pointwise eq_type_decl) xs (all eq_type_decl type_decl xs)
fineD (layer.Variables xs) = one (pointwise eq_variables) xs (all eq_variables variables xs)
fineD (layer.Procedure h b) = two eq_heading eq_block h b.0 (heading h) b.1

abbrev testD : LayerD → LayerD → Bool
testD v w = by false false the_parts each (split-Decl V v) (split-Decl V w)

stepD : (x : LayerD) (y : Decl-F SD SB) → bareD y ≡ x → Sound eq_decl (roll-Decl x)
stepD x y q e h =
    let c : eq_decl (roll-Decl x) e ≡ testD (out-Decl (roll-Decl x)) (out-Decl e) =
    compared_is the_members V the_depth Bool true the_step local member-Decl (roll-Decl x) e in
    let k : testD x (out-Decl e) ≡ true =
    subst (λ (w : LayerD). testD w (out-Decl e) ≡ true) (out-roll-Decl x) (sym c ∙ h) in
    let f : Fine the_parts each (split-Decl V x) =
    subst (λ (w : LayerD). Fine the_parts each (split-Decl V w)) q (fineD y) in
    let s : split-Decl V x ≡ split-Decl V (out-Decl e) =
    variants the_parts each (split-Decl V x) (split-Decl V (out-Decl e)) f k in
    let j : x ≡ out-Decl e =
    sym (join-split-Decl V x) ∙ (ap (join-Decl V) s ∙ join-split-Decl V (out-Decl e)) in
    ap roll-Decl j ∙ roll-out-Decl e

abbrev LayerB : Type 0
LayerB = Block-F Decl Block

abbrev bareB : Block-F SD SB → LayerB
bareB = map-Block SD SB Decl Block (λ e. e.0) (λ e. e.0)

abbrev decls : List SD → List Decl
decls = map (λ e. e.0)

abbrev eq_body : Option (List Stmt) → Option (List Stmt) → Bool
eq_body = option_eq (pointwise eq_stmt)

abbrev testB : LayerB → LayerB → Bool
testB v w = pointwise eq_decl v.decls w.decls && eq_body v.body w.body

stepB : (x : LayerB) (y : Block-F SD SB) → bareB y ≡ x → Sound eq_block (roll-Block x)
stepB x y q e h =
    let o = out-Block e in
    let c : eq_block (roll-Block x) e ≡ testB (out-Block (roll-Block x)) o =
    compared_is the_members V the_depth Bool true the_step local member-Block (roll-Block x) e in
    let k : testB (bareB y) o ≡ true =
    subst (λ (w : LayerB). testB w o ≡ true) (out-roll-Block x ∙ sym q) (sym c ∙ h) in
    let s = pointwise eq_decl (decls y.decls) o.decls in
    let t = eq_body y.body o.body in
    let m :
    decls y.decls ≡ o.decls = list eq_decl (λ e. e.0) (λ e. e.1) y.decls o.decls (first_so s t k) in
    let n : y.body ≡ o.body =
    option (pointwise eq_stmt) (all eq_stmt stmt) y.body o.body (second_so s t k) in
    let j : bareB y ≡ o = λ i. record { decls = m i; body = n i } in
    ap roll-Block (sym q ∙ j) ∙ roll-out-Block e

pub decl : (d : Decl) → Sound eq_decl d
decl = ind-Decl (Sound eq_decl) (Sound eq_block) stepD stepB

pub block : (d : Block) → Sound eq_block d
block = ind-Block (Sound eq_decl) (Sound eq_block) stepD stepB

-- ---- modules

abbrev each_def : Each Bool def_enum.the_parts
each_def = (
  λ a b. pointwise eq_constant a.0 b.0,
  (
    λ a b. pointwise eq_type_decl a.0 b.0,
    (
      λ a b. pointwise eq_variables a.0 b.0,
      (
        λ a b. eq_heading a.0 b.0,
        tt,
      ),
    ),
  ),
)

fine_def : (a : Def) → Fine def_enum.the_parts each_def (def_enum.as_values a)
fine_def (variant.Constants xs) = one (pointwise eq_constant) xs (all eq_constant constant xs)
fine_def (variant.Types xs) = one (pointwise eq_type_decl) xs (all eq_type_decl type_decl xs)
fine_def (variant.Variables xs) = one (pointwise eq_variables) xs (all eq_variables variables xs)
fine_def (variant.Procedure h) = one eq_heading h (heading h)

abbrev pub eq_def : Def → Def → Bool
eq_def = (DefEq.ghosts).eq

pub def : (a : Def) → Sound eq_def a
def a b h =
    let s : def_enum.as_values a ≡ def_enum.as_values b = variants def_enum.the_parts each_def
    (def_enum.as_values a) (def_enum.as_values b) (fine_def a) h in
    sym (def_enum.the_eta a) ∙ (ap def_enum.the_make s ∙ def_enum.the_eta b)

abbrev eq_import : Import → Import → Bool
eq_import a b = option_eq eq_ident a.from b.from && pointwise eq_ident a.names b.names

import : (a : Import) → Sound eq_import a
import a b h =
    let s = option_eq eq_ident a.from b.from in
    let t = pointwise eq_ident a.names b.names in
    let p = option eq_ident ident a.from b.from (first_so s t h) in
    let q = all eq_ident ident a.names b.names (second_so s t h) in
    λ i. record { from = p i; names = q i }

abbrev each_contents : Each Bool contents_enum.the_parts
each_contents =
    (λ a b. pointwise eq_def a.0 b.0, (λ a b. eq_block a.0 b.0, (λ a b. eq_block a.0 b.0, tt)))

fine_contents : (a : Contents)
    → Fine contents_enum.the_parts each_contents (contents_enum.as_values a)
fine_contents (Definition defs) = one (pointwise eq_def) defs (all eq_def def defs)
fine_contents (Implementation b) = one eq_block b (block b)
fine_contents (Program b) = one eq_block b (block b)

abbrev eq_contents : Contents → Contents → Bool
eq_contents = (ContentsEq.ghosts).eq

contents : (a : Contents) → Sound eq_contents a
contents a b h =
    let s : contents_enum.as_values a ≡ contents_enum.as_values b = variants contents_enum.the_parts
    each_contents (contents_enum.as_values a) (contents_enum.as_values b) (fine_contents a) h in
    sym (contents_enum.the_eta a) ∙ (ap contents_enum.the_make s ∙ contents_enum.the_eta b)

abbrev pub eq_module : Module → Module → Bool
eq_module a b =
    eq_ident a.name b.name && (pointwise eq_import a.imports b.imports
    && eq_contents a.contents b.contents)

pub module_of : (a : Module) → Sound eq_module a
module_of a b h =
    let s = eq_ident a.name b.name in
    let t = pointwise eq_import a.imports b.imports in
    let u = eq_contents a.contents b.contents in
    let rest = second_so s (t && u) h in
    let p = ident a.name b.name (first_so s (t && u) h) in
    let q = all eq_import import a.imports b.imports (first_so t u rest) in
    let r = contents a.contents b.contents (second_so t u rest) in
    λ i. record { name = p i; imports = q i; contents = r i }
