-- What tables of definitions do not export.
use Rattle.std.proofs.Common.{◌≡◌, ◌⊎◌, inl, inr, ℕ, zero, suc, ◌+◌, ◌<◌, List, [], ◌∷◌, ◌++◌, length, Some, sym, ap, subst, refl, ◌∙◌, arith, append_assoc}
use Rattle.m2_tree.specs.declared.name.Ident.{Ident}
use Rattle.m2_tree.specs.declared.decl.Heading.{Heading}
use Rattle.typed_tree.specs.declared.meaning.Meaning.{Meaning}
use Rattle.typed_tree.specs.declared.meaning.Meaning.TheVariants as meaning
use Rattle.typed_tree.specs.declared.meaning.Procedure.{Procedure as ModuleProcedure}
use Rattle.typed_tree.specs.declared.types.TypeNo.{TypeNo}
use Rattle.typed_tree.specs.declared.table.Table.{Table}
use Rattle.check_scope.specs.Elaborated.{least}
use Rattle.check_definition.specs.Predeclared.{console}
use Rattle.def_typing.specs.Declarations.{Declaration, OfConstant, OfType, OfVariables, OfProcedure, names_of}
use Rattle.def_typing.specs.Definitions.{Placed}
use Rattle.def_typing.specs.Imports.{Entry}
use Rattle.def_typing.specs.Things.{Standing}
use Rattle.def_typing.specs.Parts.{Among, here, later}
use Rattle.law_typing.specs.Judging.{the_least}
use Rattle.law_typing.proofs.Gathering.{least_lawful}
use Rattle.law_typing.specs.Exact.{AreOnce}
use Rattle.def_typed.specs.Modules.{heading_type, heading_types}
use Rattle.law_rules.specs.Exports.{procedures_of, IsEntry, a_constant, a_type, a_variable, a_procedure, Lists, no_name, a_name, OwnMeans, ConstantMeans, AreExported, nothing_exported, one_exports}
use Rattle.law_rules.specs.Importers.{IsTableOf, CanBeImported, of_console, of_definition}
use Rattle.law_rules.proofs.Finding.{least_finds}
use Rattle.law_rules.proofs.Keys.{once_found}
use Rattle.law_rules.proofs.MeantImports.{modules_once}
use Rattle.law_rules.proofs.BodiesImplementing.{HasHeadings}
use Rattle.law_rules.proofs.DefinitionsImporting.{two_numbers, answered, own_names}
use Rattle.law_rules.specs.Bodies.{IsForeign, ExportForeign, IsNoLocal, IsDefined}
use Rattle.law_rules.specs.Ruled.{AreImported, with_console}

among_either : {A : Type 0} {x : A} (xs : List A) {ys : List A} → Among x (xs ++ ys) → Among x xs ⊎ Among x ys
among_either [] m = inr m
among_either (x ∷ xs) here = inl here
among_either (x ∷ xs) (later m) = elim (among_either xs m) [ inl y ↦ inl (later y) | inr y ↦ inr y ]

-- what holds of all that is exported
module _ (P : Meaning → Type 0) where
  of_list : {Is : Ident → Meaning → Type 0} {xs : List Ident} {es : List Entry}
      → ((x : Ident) (m : Meaning) → Is x m → P m) → Lists Is xs es → (e : Entry) → Among e es → P e.1
  of_list h no_name e m = elim m [ ]
  of_list h (a_name {x = x} {m = w} i l) _ here = h x w i
  of_list h (a_name i l) e (later m) = of_list h l e m

  of_exports : {exports : ℕ → Ident → Standing} {v p : ℕ} {ds : List Placed} {es : List Entry}
      → AreExported exports v p ds es
      → ((v p : ℕ) (d : Placed) → Among d ds → (x : Ident) (m : Meaning) → OwnMeans exports v p d x m → P m)
      → ((d : Placed) (x : Ident) (m : Meaning) → ConstantMeans exports d x m → P m) → (e : Entry) → Among e es → P e.1
  of_exports nothing_exported h c e m = elim m [ ]
  of_exports (one_exports {v = v} {p = p} {d = d} {own = own} {constants = constants} l k r) h c e m =
      elim (among_either own m) [
        | inl y ↦ of_list (λ x w i. h v p d here x w i) l e y
        | inr z ↦ elim (among_either constants z) [
          | inl y ↦ of_list (λ x w i. c d x w i) k e y
          | inr y ↦ of_exports r (λ v p d n x w i. h v p d (later n) x w i) c e y
        ]
      ]

entry_foreign : (home : ℕ) {number v p : ℕ} {d : Declaration} {x : Ident} {m : Meaning} → IsEntry number v p d x m
    → (number ≡ home → ⊥) → IsForeign home m
entry_foreign home a_constant c = tt
entry_foreign home a_type c = tt
entry_foreign home {number = number} (a_variable before behind q) c = two_numbers number home c
entry_foreign home a_procedure c = tt

own_foreign : (home : ℕ) {exports : ℕ → Ident → Standing} {v p : ℕ} {d : Placed} {x : Ident} {m : Meaning}
    → OwnMeans exports v p d x m → (d.at.types.home ≡ home → ⊥) → IsForeign home m
own_foreign home o c = entry_foreign home o.entry c

constant_foreign : (home : ℕ) (exports : ℕ → Ident → Standing) (d : Placed) (x : Ident) (m : Meaning)
    → ConstantMeans exports d x m → IsForeign home m
constant_foreign home exports d x m (e, f, q) = subst (IsForeign home) (sym q) tt

entry_no_local : {number v p : ℕ} {d : Declaration} {x : Ident} {m : Meaning} → IsEntry number v p d x m → IsNoLocal m
entry_no_local a_constant = tt
entry_no_local a_type = tt
entry_no_local (a_variable before behind q) = tt
entry_no_local a_procedure = tt

constant_no_local : (exports : ℕ → Ident → Standing) (d : Placed) (x : Ident) (m : Meaning)
    → ConstantMeans exports d x m → IsNoLocal m
constant_no_local exports d x m (e, f, q) = subst IsNoLocal (sym q) tt

console_foreign : (home : ℕ) (e : Entry) → Among e console.exported → IsForeign home e.1
unfolding console
console_foreign home _ here = tt
console_foreign home e (later m) = elim m [ ]

table_foreign : (home : ℕ) (t : Table) → CanBeImported least home t → (e : Entry) → Among e t.exported
    → IsForeign home e.1
table_foreign home t (of_console q) e m = console_foreign home e (subst (λ (t : Table). Among e t.exported) q m)
table_foreign home t (of_definition number w c) e m =
    let a = answered least the_least least_lawful least_finds w in
    of_exports (IsForeign home) a.exported (λ v p d n x y i. own_foreign home i (λ q. c (sym (a.homes d n) ∙ q)))
    (λ d x y i. constant_foreign home a.exports d x y i) e m

pub tables_foreign : (home : ℕ) (imported : List Table) → AreImported home imported
    → ExportForeign home (with_console imported)
tables_foreign home imported i t m e n = elim (among_either imported m) [
  | inl y ↦ table_foreign home t (i t y) e n
  | inr y ↦ table_foreign home t (of_console (only y)) e n
]
  where
    only : {t : Table} → Among t (console ∷ []) → t ≡ console
    only here = refl
    only (later m) = elim m [ ]

pub number_is : (number : ℕ) (t : Table) → IsTableOf least number t → t.number ≡ number
number_is number t w = (answered least the_least least_lawful least_finds w).numbered

pub own_defined : (number : ℕ) (own : Table) → IsTableOf least number own → IsDefined own
own_defined number own w =
    let a = answered least the_least least_lawful least_finds w in
    record {
      once = (own_names least the_least least_lawful least_finds number own w).0;
      no_locals =
          λ e m. of_exports IsNoLocal a.exported (λ v p d n x y i. entry_no_local i.entry)
          (λ d x y i. constant_no_local a.exports d x y i) e m;
    }

-- ---- the procedures of a definition have numbers

heading_types_append : (xs ys : List Entry) → heading_types (xs ++ ys) ≡ heading_types xs ++ heading_types ys
heading_types_append [] ys = refl
heading_types_append (x ∷ xs) ys = ap (λ (ts : List TypeNo). heading_type x.1 ++ ts) (heading_types_append xs ys)
    ∙ sym (append_assoc (heading_type x.1) (heading_types xs) (heading_types ys))

none_headed : {Is : Ident → Meaning → Type 0} {xs : List Ident} {es : List Entry}
    → ((x : Ident) (m : Meaning) → Is x m → heading_type m ≡ []) → Lists Is xs es → heading_types es ≡ []
none_headed h no_name = refl
none_headed h (a_name {x = x} {m = m} {es = es} i l) = ap (λ (ts : List TypeNo). ts ++ heading_types es) (h x m i)
    ∙ none_headed h l

one_listed : {Is : Ident → Meaning → Type 0} {x : Ident} {es : List Entry} → Lists Is (x ∷ []) es → (m : Meaning)
    × Is x m × (es ≡ (x.name, m) ∷ [])
one_listed (a_name {m = m} i no_name) = (m, i, refl)

plain_entry : {home v p : ℕ} {c : Declaration} {x : Ident} {m : Meaning} → IsEntry home v p c x m → procedures_of c ≡ 0
    → heading_type m ≡ []
plain_entry a_constant e = refl
plain_entry a_type e = refl
plain_entry (a_variable before behind q) e = refl
plain_entry a_procedure e = absurd cc

headed_entry : {home v p : ℕ} {h : Heading} {x : Ident} {m : Meaning} → IsEntry home v p (OfProcedure h) x m
    → (a : ModuleProcedure) × (m ≡ meaning.Procedure a) × (a.number ≡ p)
headed_entry a_procedure = (_, refl, refl)

-- what is exported under the number of a procedure
abbrev Exports : List Entry → ℕ → Type 0
Exports es n = (e : Entry) × Among e es × (a : ModuleProcedure) × (e.1 ≡ meaning.Procedure a) × (a.number ≡ n)

more_exported : (xs : List Entry) {ys : List Entry} {n : ℕ} → Exports ys n → Exports (xs ++ ys) n
more_exported [] r = r
more_exported (x ∷ xs) r = let z = more_exported xs r in (z.0, later z.1, z.2, z.3, z.4)

module _ (exports : ℕ → Ident → Standing) where
  constants_headless : (d : Placed) {ns : List Ident} {es : List Entry} → Lists (ConstantMeans exports d) ns es
      → heading_types es ≡ []
  constants_headless d l = none_headed (λ x m i. ap heading_type i.2) l

  abbrev Numbers : ℕ → List Entry → Type 0
  Numbers p es = (k : ℕ) → k < length (heading_types es) → Exports es (p + k)

  -- a declaration without a heading
  plain_exports : {d : Placed} {v p : ℕ} {ns : List Ident} {own rest : List Entry} → procedures_of d.what ≡ 0
      → Lists (OwnMeans exports v p d) ns own → Numbers (p + procedures_of d.what) rest → Numbers p (own ++ rest)
  plain_exports {d = d} {p = p} {own = own} {rest = rest} e l h k x =
      let n : heading_types (own ++ rest) ≡ heading_types rest = heading_types_append own rest
      ∙ ap (λ (ts : List TypeNo). ts ++ heading_types rest) (none_headed (λ y m i. plain_entry i.entry e) l) in
      let r = h k (subst (λ (ts : List TypeNo). k < length ts) n x) in
      let z : p + procedures_of d.what + k ≡ p + k = omega (arith, e) in
      more_exported own (subst (λ (n : ℕ). Exports rest n) z r)

  headed_exports : {d : Placed} {v p : ℕ} {h : Heading} {own rest : List Entry} → d.what ≡ OfProcedure h
      → Lists (OwnMeans exports v p d) (h.name ∷ []) own → Numbers (p + 1) rest → Numbers p (own ++ rest)
  headed_exports {d = d} {v = v} {p = p} {h = h} {own = own} {rest = rest} e l more k x =
      subst (λ (es : List Entry). Exports (es ++ rest) (p + k)) (sym one.2)
      (by k (subst (λ (es : List Entry). k < length (heading_types (es ++ rest))) one.2 x))
    where
      one : (m : Meaning) × OwnMeans exports v p d h.name m × (own ≡ (h.name.name, m) ∷ [])
      one = one_listed l

      it : (a : ModuleProcedure) × (one.0 ≡ meaning.Procedure a) × (a.number ≡ p)
      it = headed_entry (subst (λ (c : Declaration). IsEntry d.at.types.home v p c h.name one.0) e one.1.entry)

      size : length (heading_types ((h.name.name, one.0) ∷ rest)) ≡ suc (length (heading_types rest))
      size = ap (λ (m : Meaning). length (heading_type m ++ heading_types rest)) it.1

      by : (k : ℕ) → k < length (heading_types ((h.name.name, one.0) ∷ rest))
          → Exports ((h.name.name, one.0) ∷ rest) (p + k)
      by zero x = let z : p ≡ p + 0 = omega arith in ((h.name.name, one.0), here, it.0, it.1, it.2 ∙ z)
      by (suc k) x =
          let r = more k (less k size x) in
          let z : p + 1 + k ≡ p + suc k = omega arith in
          (r.0, later r.1, r.2, r.3, r.4 ∙ z)
        where
          less : {a b : ℕ} (k : ℕ) → a ≡ suc b → suc k < a → k < b
          less k e l = omega (arith, e, l)

  exports_by : {d : Placed} {v p : ℕ} {own rest : List Entry} (c : Declaration) → d.what ≡ c
      → Lists (OwnMeans exports v p d) (names_of c) own → Numbers (p + procedures_of c) rest → Numbers p (own ++ rest)
  exports_by {p = p} {rest = rest} (OfConstant c) e l h =
      plain_exports (ap procedures_of e) l (subst (λ (c : Declaration). Numbers (p + procedures_of c) rest) (sym e) h)
  exports_by {p = p} {rest = rest} (OfType c) e l h =
      plain_exports (ap procedures_of e) l (subst (λ (c : Declaration). Numbers (p + procedures_of c) rest) (sym e) h)
  exports_by {p = p} {rest = rest} (OfVariables c) e l h =
      plain_exports (ap procedures_of e) l (subst (λ (c : Declaration). Numbers (p + procedures_of c) rest) (sym e) h)
  exports_by (OfProcedure c) e l h = headed_exports e l h

  all_numbered : {v p : ℕ} {ds : List Placed} {es : List Entry} → AreExported exports v p ds es → Numbers p es
  all_numbered nothing_exported = λ k x. absurd (not_less k x)
    where
      not_less : (k : ℕ) → k < 0 → ⊥
      not_less k x = omega (arith, x)
  all_numbered (one_exports {d = d} {constants = constants} {rest = rest} l c r) =
      exports_by d.what refl l (λ k x. more_exported constants (all_numbered r k
      (subst (λ (ts : List TypeNo). k < length ts)
      (heading_types_append constants rest
      ∙ ap (λ (ts : List TypeNo). ts ++ heading_types rest) (constants_headless d c)) x)))

pub own_headed : (number : ℕ) (own : Table) → IsTableOf least number own → HasHeadings own
own_headed number own w k x =
    let a = answered least the_least least_lawful least_finds w in
    let r = all_numbered a.exports a.exported k x in
    (r.0.0, r.2, r.4 ∙ zero_more, once_found (own_defined number own w).once r.0 r.1 ∙ ap (λ (m : Meaning). Some m) r.3)
  where
    zero_more : {k : ℕ} → 0 + k ≡ k
    zero_more = omega arith

-- It lists each module once that it imports.
pub own_listed : (number : ℕ) (own : Table) → IsTableOf least number own → AreOnce own.imports
own_listed number own w = modules_once (answered least the_least least_lawful least_finds w).imported
