-- Into a procedure of a block: its formals.
use Rattle.std.specs.Prelude.{ℕ, cond, List, [], ◌∷◌, ◌++◌, length, Option, Result, Ok, Err}
use Rattle.std.specs.List.{fold}
use Rattle.std.specs.Option.{is_some}
use Rattle.m2_tree.specs.declared.name.Ident.{Ident}
use Rattle.m2_tree.specs.declared.decl.Section.{Section}
use Rattle.m2_tree.specs.declared.decl.Heading.{Heading}
use Rattle.typed_tree.specs.declared.types.TypeNo.{TypeNo}
use Rattle.typed_tree.specs.declared.shape.Formal.{Formal}
use Rattle.typed_tree.specs.declared.meaning.LocalKind.{LocalKind}
use Rattle.typed_tree.specs.declared.meaning.LocalKind.TheVariants as kind
use Rattle.typed_tree.specs.declared.meaning.Meaning.{Meaning}
use Rattle.typed_tree.specs.declared.meaning.Meaning.TheVariants as meaning
use Rattle.typed_tree.specs.Names.{find_name, enter_name}
use Rattle.check_scope.specs.declared.known.Origin.TheVariants.{Here}
use Rattle.check_scope.specs.declared.known.Known.{Known}
use Rattle.check_scope.specs.declared.known.Known.TheVariants.{Declared}
use Rattle.check_scope.specs.declared.scope.Scope.{Scope}
use Rattle.check_scope.specs.Scopes.{State}
use Rattle.check_scope.specs.Elaborated.{Gathers, ◌▷◌}
use Rattle.check_type_expr.specs.Headings.{formal_of, result_of}
use Rattle.check_scope.specs.Inwards.{inwards}

-- ---- formals, numbered from 0. What is reported of them is reported of the heading.

abbrev pub formal_kind : Formal → LocalKind
formal_kind f = cond f.is_open kind.Open (cond f.is_var kind.Alias kind.Value)

abbrev pub formal_meaning : {T : Type 0} → (level number : ℕ) → Result Formal T → Result Meaning T
formal_meaning level n f =
    f ▷ λ x.
    Ok (meaning.Local (record { level = level; number = n; kind = formal_kind x; of = x.of }))

abbrev pub unless_found : {V : Type 0} → List ℕ → V → List (List ℕ × V) → List (List ℕ × V)
unless_found name v ns = cond (is_some (find_name name ns)) ns (enter_name name v ns)

abbrev pub with_formal_type : {T : Type 0} → List TypeNo → Result Formal T → List TypeNo
with_formal_type ts (Ok f) = ts ++ f.of ∷ []
with_formal_type ts (Err e) = ts

-- the names of the formals so far, and their types
abbrev pub Formals : Type 0 → Type 0
Formals T = List (List ℕ × Known T) × List TypeNo

abbrev pub with_formal : {T : Type 0} → (level : ℕ) → Result Formal T → Formals T → Ident
    → Formals T
with_formal level f fs name = (
  unless_found name.name (Declared Here (formal_meaning level (length fs.1) f)) fs.0,
  with_formal_type fs.1 f,
)

abbrev pub with_section : (g : Gathers) → Scope g.Reported → Formals g.Reported → Section
    → Formals g.Reported
with_section g s fs x = fold (with_formal s.level (formal_of g s x.is_var x.of)) fs x.names

abbrev pub formals_in : (g : Gathers) → Scope g.Reported → List Section → Formals g.Reported
formals_in g s xs = fold (with_section g s) ([], []) xs

abbrev pub with_formals : {T : Type 0} → Scope T → Formals T → Scope T
with_formals s fs = record s { own = fs.0; variables = fs.1 }

-- the scope in which a procedure's block begins, and the type of what the procedure gives
abbrev pub entered_in : (g : Gathers) → Scope g.Reported → Heading
    → State (Option TypeNo) g.Reported
entered_in g s h = (with_formals s (formals_in g s h.formals), result_of g s h.result)

abbrev pub entered_procedure : (g : Gathers) → Scope g.Reported → (seen : ℕ) → Heading
    → State (Option TypeNo) g.Reported
entered_procedure g s seen h = entered_in g (inwards s seen) h
