-- What fits, by its variants.
use Rattle.std.proofs.Common.{◌≡◌, ℕ, pos, Bool, true, false, ◌&&◌, List, [], ◌∷◌, Option, Some, None, refl, ap, ◌∙◌}
use Rattle.std.specs.Prelude.{map, int_le}
use Rattle.std.specs.List.{AllByRecursion, list_all}
use Rattle.m2_tree.specs.declared.name.Ident.{Ident}
use Rattle.m2_tree.specs.declared.pos.Pos.{Pos}
use Rattle.m2_tree.specs.declared.stmt.Stmt.{Stmt}
use Rattle.m2_tree.specs.declared.expr.Sign.{Sign}
use Rattle.m2_tree.specs.declared.expr.AddOp.{AddOp}
use Rattle.m2_tree.specs.declared.expr.MulOp.{MulOp}
use Rattle.m2_tree.specs.declared.expr.RelOp.{RelOp}
use Rattle.m2_tree.specs.declared.expr.Operator.{Operator}
use Rattle.m2_tree.specs.declared.expr.Qualified.{Qualified}
use Rattle.m2_tree.specs.declared.expr.Expr.{Expr, Expr-F, out-Expr, map-Expr, fold_out-Expr}
use Rattle.m2_tree.specs.declared.expr.Expr.TheOpen as layer
use Rattle.m2_tree.specs.declared.expr.Expr.TheVariants as e
use Rattle.m2_tree.specs.declared.expr.Expr.TheVariants.{outs-Number, outs-Char, outs-Text, outs-Set, outs-Not, outs-Bracketed, outs-Use, outs-Term, outs-Sum, outs-Relation}
use Rattle.m2_tree.specs.declared.expr.Selector.{Selector, fold-Selector}
use Rattle.m2_tree.specs.declared.expr.Designator.{Designator, fold-Designator, fold_out-Designator}
use Rattle.m2_tree.specs.declared.expr.Item.{Item, fold-Item}
use Rattle.m2_tree.specs.declared.decl.Parameter.{Parameter}
use Rattle.m2_tree.specs.declared.decl.Simple.{Simple}
use Rattle.m2_tree.specs.declared.decl.TypeExpr.{TypeExpr, TypeExpr-F, out-TypeExpr, map-TypeExpr, fold_out-TypeExpr}
use Rattle.m2_tree.specs.declared.decl.TypeExpr.TheOpen as tlayer
use Rattle.m2_tree.specs.declared.decl.TypeExpr.TheVariants as ty
use Rattle.m2_tree.specs.declared.decl.TypeExpr.TheVariants.{outs-Simple, outs-Array, outs-Record, outs-Procedure}
use Rattle.m2_tree.specs.declared.decl.Field.{Field, Field-F, out-Field, roll-Field, out-roll-Field, map-Field, fold-Field, fold_out-Field}
use Rattle.m2_tree.specs.declared.decl.Constant.{Constant}
use Rattle.m2_tree.specs.declared.decl.TypeDecl.{TypeDecl}
use Rattle.m2_tree.specs.declared.decl.Variables.{Variables}
use Rattle.m2_tree.specs.declared.decl.Heading.{Heading}
use Rattle.m2_tree.specs.declared.decl.Decl.{Decl, Decl-F, out-Decl, map-Decl, fold_out-Decl}
use Rattle.m2_tree.specs.declared.decl.Decl.TheOpen as dlayer
use Rattle.m2_tree.specs.declared.decl.Decl.TheVariants as decl
use Rattle.m2_tree.specs.declared.decl.Decl.TheVariants.{outs-Constants, outs-Types, outs-Variables}
use Rattle.m2_tree.specs.declared.decl.Decl.TheVariants.{outs-Procedure as outs-Body}
use Rattle.m2_tree.specs.declared.decl.Block.{Block, Block-F, out-Block, roll-Block, out-roll-Block, map-Block, fold_out-Block}
use Rattle.law_well_formed.specs.FormedRanges.{both_fit, itself, fits_layer, fits_selector, fits_designator, fits_item, fits, fits_character, fits_simple, fits_type_layer, fits_field, fits_type, fits_constant, fits_type_decl, fits_variables}
use Rattle.law_well_formed.specs.FormedKnown.{fits_within_layer, fits_block_layer, fits_within, fits_block}

pub and_both : (a b : Bool) → a ≡ true → b ≡ true → (a && b) ≡ true
and_both true b h k = k
and_both false b h k = absurd cc

pub all_true : {X : Type 0} (f : X → Bool) (xs : List X) → AllByRecursion (λ x. f x ≡ true) xs → list_all f xs ≡ true
all_true f [] h = refl
all_true f (x ∷ xs) h = and_both (f x) (list_all f xs) h.0 (all_true f xs h.1)

pub all_mapped : {X : Type 0} (f : X → Bool) (xs : List X) → AllByRecursion (λ x. f x ≡ true) xs
    → list_all itself (map f xs) ≡ true
all_mapped f [] h = refl
all_mapped f (x ∷ xs) h = and_both (f x) (list_all itself (map f xs)) h.0 (all_mapped f xs h.1)

-- ---- expressions

abbrev fits_s : Selector → Bool
fits_s x = fold-Selector Bool Bool Bool Bool fits_layer fits_selector fits_designator fits_item x

abbrev fits_d : Designator → Bool
fits_d x = fold-Designator Bool Bool Bool Bool fits_layer fits_selector fits_designator fits_item x

abbrev fits_i : Item → Bool
fits_i x = fold-Item Bool Bool Bool Bool fits_layer fits_selector fits_designator fits_item x

abbrev elaborated : Expr-F Expr Selector Designator Item → Expr-F Bool Bool Bool Bool
elaborated x = map-Expr Expr Selector Designator Item Bool Bool Bool Bool fits fits_s fits_d fits_i x

at : (x : Expr) (y : Expr-F Expr Selector Designator Item) → out-Expr x ≡ y → fits x ≡ fits_layer (elaborated y)
unfolding fits
at x y q = fold_out-Expr Bool Bool Bool Bool fits_layer fits_selector fits_designator fits_item x
    ∙ ap (λ (z : Expr-F Expr Selector Designator Item). fits_layer (elaborated z)) q

designator_fits : (d : Designator) → fits_d d ≡ true
designator_fits d = fold_out-Designator Bool Bool Bool Bool fits_layer fits_selector fits_designator fits_item d

pub number_fits : (p : Pos) (n : ℕ) → int_le (pos n) (pos 4294967295) ≡ true → fits (e.Number p n) ≡ true
number_fits p n h = at (e.Number p n) (layer.Number p n) (outs-Number p n) ∙ h

pub char_fits : (p : Pos) (n : ℕ) → int_le (pos n) (pos 255) ≡ true → fits (e.Char p n) ≡ true
char_fits p n h = at (e.Char p n) (layer.Char p n) (outs-Char p n) ∙ h

pub text_fits : (p : Pos) (t : List ℕ) → list_all fits_character t ≡ true → fits (e.Text p t) ≡ true
text_fits p t h = at (e.Text p t) (layer.Text p t) (outs-Text p t) ∙ h

pub set_fits : (name : Option Ident) (p : Pos) (items : List Item) → fits (e.Set name p items) ≡ true
set_fits name p items = at (e.Set name p items) (layer.Set name p items) (outs-Set name p items)

pub not_fits : (p : Pos) (x : Expr) → fits x ≡ true → fits (e.Not p x) ≡ true
not_fits p x h = at (e.Not p x) (layer.Not p x) (outs-Not p x) ∙ h

pub bracketed_fits : (p : Pos) (x : Expr) → fits x ≡ true → fits (e.Bracketed p x) ≡ true
bracketed_fits p x h = at (e.Bracketed p x) (layer.Bracketed p x) (outs-Bracketed p x) ∙ h

pub use_fits : (d : Designator) (args : Option (List Expr))
    → ((es : List Expr) → args ≡ Some es → AllByRecursion (λ x. fits x ≡ true) es) → fits (e.Use d args) ≡ true
use_fits d None h = at (e.Use d None) (layer.Use d None) (outs-Use d None)
    ∙ and_both (fits_d d) true (designator_fits d) refl
use_fits d (Some es) h = at (e.Use d (Some es)) (layer.Use d (Some es)) (outs-Use d (Some es))
    ∙ and_both (fits_d d) (list_all itself (map fits es)) (designator_fits d) (all_mapped fits es (h es refl))

abbrev OperandsFit : {O : Type 0} → List (O × Expr) → Type 0
OperandsFit ps = AllByRecursion (λ p. fits p.1 ≡ true) ps

operands_fit : {O : Type 0} (ps : List (O × Expr)) → OperandsFit ps
    → list_all (both_fit {O = O}) (map (λ p. (p.0, fits p.1)) ps) ≡ true
operands_fit [] h = refl
operands_fit {O = O} (p ∷ ps) h = and_both (fits p.1) (list_all (both_fit {O = O}) (map (λ p. (p.0, fits p.1)) ps)) h.0
    (operands_fit ps h.1)

pub term_fits : (x : Expr) (ps : List (Operator MulOp × Expr)) → fits x ≡ true → OperandsFit ps
    → fits (e.Term x ps) ≡ true
term_fits x ps h k = at (e.Term x ps) (layer.Term x ps) (outs-Term x ps) ∙ and_both (fits x) _ h (operands_fit ps k)

pub sum_fits : (o : Option (Operator Sign)) (x : Expr) (ps : List (Operator AddOp × Expr)) → fits x ≡ true
    → OperandsFit ps → fits (e.Sum o x ps) ≡ true
sum_fits o x ps h k = at (e.Sum o x ps) (layer.Sum o x ps) (outs-Sum o x ps) ∙ and_both (fits x) _ h (operands_fit ps k)

pub relation_fits : (x : Expr) (o : Operator RelOp) (y : Expr) → fits x ≡ true → fits y ≡ true
    → fits (e.Relation x o y) ≡ true
relation_fits x o y h k = at (e.Relation x o y) (layer.Relation x o y) (outs-Relation x o y)
    ∙ and_both (fits x) (fits y) h k

-- ---- types

abbrev pub fits_list : Field → Bool
fits_list f = fold-Field Bool Bool fits_type_layer fits_field f

abbrev elaborated_type : TypeExpr-F TypeExpr Field → TypeExpr-F Bool Bool
elaborated_type x = map-TypeExpr TypeExpr Field Bool Bool fits_type fits_list x

abbrev elaborated_field : Field-F TypeExpr Field → Field-F Bool Bool
elaborated_field x = map-Field TypeExpr Field Bool Bool fits_type fits_list x

at_type : (t : TypeExpr) (x : TypeExpr-F TypeExpr Field) → out-TypeExpr t ≡ x
    → fits_type t ≡ fits_type_layer (elaborated_type x)
unfolding fits_type
at_type t x q = fold_out-TypeExpr Bool Bool fits_type_layer fits_field t
    ∙ ap (λ (y : TypeExpr-F TypeExpr Field). fits_type_layer (elaborated_type y)) q

at_field : (f : Field) (x : Field-F TypeExpr Field) → out-Field f ≡ x → fits_list f ≡ fits_field (elaborated_field x)
unfolding fits_type
at_field f x q = fold_out-Field Bool Bool fits_type_layer fits_field f
    ∙ ap (λ (y : Field-F TypeExpr Field). fits_field (elaborated_field y)) q

pub simple_type_fits : (t : Simple) → fits_simple t ≡ true → fits_type (ty.Simple t) ≡ true
simple_type_fits t h = at_type (ty.Simple t) (tlayer.Simple t) (outs-Simple t) ∙ h

pub array_fits : (p : Pos) (i : Simple) (t : TypeExpr) → fits_simple i ≡ true → fits_type t ≡ true
    → fits_type (ty.Array p i t) ≡ true
array_fits p i t h k = at_type (ty.Array p i t) (tlayer.Array p i t) (outs-Array p i t)
    ∙ and_both (fits_simple i) (fits_type t) h k

pub record_fits : (p : Pos) (fs : List Field) → AllByRecursion (λ f. fits_list f ≡ true) fs
    → fits_type (ty.Record p fs) ≡ true
record_fits p fs h = at_type (ty.Record p fs) (tlayer.Record p fs) (outs-Record p fs) ∙ all_mapped fits_list fs h

pub procedure_fits : (p : Pos) (ps : List Parameter) (of : Option Qualified) → fits_type (ty.Procedure p ps of) ≡ true
procedure_fits p ps of = at_type (ty.Procedure p ps of) (tlayer.Procedure p ps of) (outs-Procedure p ps of)

pub field_fits : (names : List Ident) (t : TypeExpr) → fits_type t ≡ true
    → fits_list (roll-Field (record { names = names; of = t })) ≡ true
field_fits names t h = at_field (roll-Field (record { names = names; of = t })) (record { names = names; of = t })
    (out-roll-Field (record { names = names; of = t })) ∙ h

-- ---- declarations

abbrev elaborated_decl : Decl-F Decl Block → Decl-F Bool Bool
elaborated_decl x = map-Decl Decl Block Bool Bool fits_within fits_block x

abbrev elaborated_block : Block-F Decl Block → Block-F Bool Bool
elaborated_block x = map-Block Decl Block Bool Bool fits_within fits_block x

at_decl : (d : Decl) (x : Decl-F Decl Block) → out-Decl d ≡ x → fits_within d ≡ fits_within_layer (elaborated_decl x)
unfolding fits_within fits_block
at_decl d x q = fold_out-Decl Bool Bool fits_within_layer fits_block_layer d
    ∙ ap (λ (y : Decl-F Decl Block). fits_within_layer (elaborated_decl y)) q

at_block : (b : Block) (x : Block-F Decl Block) → out-Block b ≡ x → fits_block b ≡ fits_block_layer (elaborated_block x)
unfolding fits_within fits_block
at_block b x q = fold_out-Block Bool Bool fits_within_layer fits_block_layer b
    ∙ ap (λ (y : Block-F Decl Block). fits_block_layer (elaborated_block y)) q

pub constants_fit : (cs : List Constant) → list_all fits_constant cs ≡ true → fits_within (decl.Constants cs) ≡ true
constants_fit cs h = at_decl (decl.Constants cs) (dlayer.Constants cs) (outs-Constants cs) ∙ h

pub types_fit : (ts : List TypeDecl) → list_all fits_type_decl ts ≡ true → fits_within (decl.Types ts) ≡ true
types_fit ts h = at_decl (decl.Types ts) (dlayer.Types ts) (outs-Types ts) ∙ h

pub variables_fit : (vs : List Variables) → list_all fits_variables vs ≡ true → fits_within (decl.Variables vs) ≡ true
variables_fit vs h = at_decl (decl.Variables vs) (dlayer.Variables vs) (outs-Variables vs) ∙ h

pub body_fits : (x : Heading) (b : Block) → fits_block b ≡ true → fits_within (decl.Procedure x b) ≡ true
body_fits x b h = at_decl (decl.Procedure x b) (dlayer.Procedure x b) (outs-Body x b) ∙ h

pub block_fits : (ds : List Decl) (body : Option (List Stmt)) → AllByRecursion (λ d. fits_within d ≡ true) ds
    → fits_block (roll-Block (record { decls = ds; body = body })) ≡ true
block_fits ds body h = at_block (roll-Block (record { decls = ds; body = body })) (record { decls = ds; body = body })
    (out-roll-Block (record { decls = ds; body = body })) ∙ all_mapped fits_within ds h
