-- Inner of check_block, with other numbers of modules.
use Rattle.check_scope.specs.Inwards.{left_procedure, outwards, pop_block, inwards, outside, split_last}
use Rattle.check_block.specs.Inner.{entered_procedure, formal_kind, formal_meaning, with_section, with_formal_type, with_formal, formals_in, entered_in, Formals, with_formals, unless_found}
use Rattle.check_scope.specs.declared.inner.Outside.{Outside}
use Rattle.check_scope.specs.Elaborated.{Gathers}
use Rattle.check_scope.specs.declared.known.Known.{Known}
use Rattle.check_scope.specs.declared.scope.Block.{Block}
use Rattle.check_scope.specs.declared.scope.Scope.{Scope}
use Rattle.def_exchange.specs.Moved.{moved_formal, moved_meaning, moved_type, Exchange}
use Rattle.law_exchange_types.proofs.Headings.{formal_of_moves, result_of_moves}
use Rattle.law_exchange_bodies.specs.Modules.{moved_formals, moved_outside}
use Rattle.law_exchange_types.proofs.InScope.{inwards_moves}
use Rattle.law_exchange_types.proofs.Basics.{then_map, map_then, fold_moves}
use Rattle.law_exchange_types.specs.Pieces.{map_ok, moved_pair}
use Rattle.law_exchange_types.specs.Scopes.{moved_block, moved_names, moved_scope, moved_state_of, moved_known}
use Rattle.m2_tree.specs.declared.decl.Heading.{Heading}
use Rattle.m2_tree.specs.declared.decl.Section.{Section}
use Rattle.m2_tree.specs.declared.name.Ident.{Ident}
use Rattle.std.proofs.Common.{◌≡◌, refl, Err, List, None, Ok, Option, Result, Some, map, option_map, ℕ, ap, ap₂, fold, length, [], ◌∙◌}
use Rattle.std.proofs.lemmas.List.{length-map, map-append}
use Rattle.typed_tree.specs.declared.shape.Formal.{Formal}
use Rattle.typed_tree.specs.declared.types.TypeNo.{TypeNo}
use Rattle.check_type_expr.specs.Headings.{formal_of}
use Rattle.typed_tree.specs.declared.meaning.Meaning.{Meaning}
use Rattle.check_scope.specs.declared.known.Origin.TheVariants.{Here}
use Rattle.check_scope.specs.declared.known.Known.TheVariants.{Declared}
use Rattle.law_exchange_bodies.proofs.Pieces.{unless_found_moves, split_moves}

pub outside_moves : (z : Exchange) {T : Type 0} (s : Scope T)
    → outside (moved_scope z s) ≡ moved_outside z (outside s)
outside_moves z s = refl

pub formal_kind_moves : (z : Exchange) (f : Formal)
    → formal_kind (moved_formal z f) ≡ formal_kind f
formal_kind_moves z f = refl

pub formal_meaning_moves : (z : Exchange) {T : Type 0} (level : ℕ) (number : ℕ) (f : Result Formal T)
    → formal_meaning level number (map_ok (moved_formal z) f) ≡ map_ok (moved_meaning z) (formal_meaning level number f)
formal_meaning_moves z level n f = simp (formal_kind_moves, then_map, map_then)

pub with_formal_type_moves : (z : Exchange) {T : Type 0} (ts : List TypeNo) (f : Result Formal T)
    → with_formal_type (map (moved_type z) ts) (map_ok (moved_formal z) f)
    ≡ map (moved_type z) (with_formal_type ts f)
with_formal_type_moves z ts (Ok f) = simp (map-append)
with_formal_type_moves z ts (Err e) = refl

pub with_formal_moves : (z : Exchange) {T : Type 0} (level : ℕ) (f : Result Formal T) (fs : Formals T) (name : Ident)
    → with_formal level (map_ok (moved_formal z) f) (moved_formals z fs) name
    ≡ moved_formals z (with_formal level f fs name)
with_formal_moves z {T} level f fs name =
    ap₂ (λ (ns : List (List ℕ × Known T)) (ts : List TypeNo). (ns, ts))
    (ap (λ (m : Result Meaning T). unless_found name.name (Declared Here m) (moved_names z fs.0))
    (ap (λ (n : ℕ). formal_meaning level n (map_ok (moved_formal z) f)) (length-map fs.1 (moved_type z))
    ∙ formal_meaning_moves z level (length fs.1) f)
    ∙ unless_found_moves (moved_known z) name.name (Declared Here (formal_meaning level (length fs.1) f)) fs.0)
    (with_formal_type_moves z fs.1 f)

pub with_section_moves : (z : Exchange) (g : Gathers) (s : Scope g.Reported) (fs : Formals g.Reported) (x : Section)
    → with_section g (moved_scope z s) (moved_formals z fs) x ≡ moved_formals z (with_section g s fs x)
with_section_moves z g s fs x =
    ap (λ (f : Result Formal g.Reported). fold (with_formal s.level f) (moved_formals z fs) x.names)
    (formal_of_moves z g s x.is_var x.of)
    ∙ fold_moves (moved_formals z) (with_formal s.level (formal_of g s x.is_var x.of))
    (with_formal s.level (map_ok (moved_formal z) (formal_of g s x.is_var x.of)))
    (with_formal_moves z s.level (formal_of g s x.is_var x.of)) fs x.names

pub formals_in_moves : (z : Exchange) (g : Gathers) (s : Scope g.Reported) (xs : List Section)
    → formals_in g (moved_scope z s) xs ≡ moved_formals z (formals_in g s xs)
formals_in_moves z g s xs =
    fold_moves (moved_formals z) (with_section g s) (with_section g (moved_scope z s)) (with_section_moves z g s)
    ([], []) xs

pub with_formals_moves : (z : Exchange) {T : Type 0} (s : Scope T) (fs : Formals T)
    → with_formals (moved_scope z s) (moved_formals z fs) ≡ moved_scope z (with_formals s fs)
with_formals_moves z s fs = refl

pub entered_in_moves : (z : Exchange) (g : Gathers) (s : Scope g.Reported) (h : Heading)
    → entered_in g (moved_scope z s) h ≡ moved_state_of z (option_map (moved_type z)) (entered_in g s h)
entered_in_moves z g s h =
    ap₂ (λ (fs : Formals g.Reported) (r : Result (Option TypeNo) g.Reported). (with_formals (moved_scope z s) fs, r))
    (formals_in_moves z g s h.formals) (result_of_moves z g s h.result)

pub entered_procedure_moves : (z : Exchange) (g : Gathers) (s : Scope g.Reported) (seen : ℕ) (h : Heading)
    → entered_procedure g (moved_scope z s) seen h
    ≡ moved_state_of z (option_map (moved_type z)) (entered_procedure g s seen h)
entered_procedure_moves z g s seen h =
    ap (λ (i : Scope g.Reported). entered_in g i h) (inwards_moves z s seen) ∙ entered_in_moves z g (inwards s seen) h

pub outwards_moves : (z : Exchange) {T : Type 0} (o : Outside) (s : Scope T) (outer : List (Block T))
    (names : List (List ℕ × Known T))
    → outwards (moved_outside z o) (moved_scope z s) (map (moved_block z) outer) (moved_names z names)
    ≡ moved_scope z (outwards o s outer names)
outwards_moves z o s outer names = refl

pub pop_block_moves : (z : Exchange) {T : Type 0} (b : Option (List (Block T) × Block T))
    → pop_block (option_map (moved_pair (map (moved_block z)) (moved_block z)) b)
    ≡ moved_pair (map (moved_block z)) (moved_names z) (pop_block b)
pop_block_moves z None = refl
pop_block_moves z (Some p) = refl

pub left_procedure_moves : (z : Exchange) {T : Type 0} (o : Outside) (s : Scope T)
    → left_procedure (moved_outside z o) (moved_scope z s) ≡ moved_scope z (left_procedure o s)
left_procedure_moves z {T} o s =
    ap (λ (b : List (Block T) × List (List ℕ × Known T)). outwards (moved_outside z o) (moved_scope z s) b.0 b.1)
    (ap pop_block (split_moves (moved_block z) s.outer) ∙ pop_block_moves z (split_last s.outer))
