-- The types that are met through a table are those of the tables that it imports from, and its own.
use Rattle.std.proofs.Common.{◌≡◌, ℕ, Bool, true, false, cond, List, [], ◌∷◌, ◌++◌, Option, Some, refl, sym, ap, subst, ◌∙◌, arith}
use Rattle.std.specs.Prelude.{map, nat_eq, reverse}
use Rattle.std.specs.List.{fold}
use Rattle.std.specs.Map.{lookup}
use Rattle.std.specs.Option.{is_some}
use Rattle.std.proofs.lemmas.Bool.Decides.{nat_tests}
use Rattle.std.proofs.lemmas.List.{reverse-append}
use Rattle.indexmap.specs.IndexMap.{insert_entry}
use Rattle.m2_tree.specs.declared.name.Ident.{Ident}
use Rattle.typed_tree.specs.declared.known_types.Types.{Types}
use Rattle.typed_tree.specs.declared.shape.Made.{Made}
use Rattle.typed_tree.specs.declared.table.ModuleTypes.{ModuleTypes}
use Rattle.typed_tree.specs.declared.table.Table.{Table}
use Rattle.check_definition.specs.Predeclared.{with_reached, with_table, others_of}
use Rattle.check_definition.specs.Export as export
use Rattle.check_definition.specs.Export.{own_types, reached_of}
use Rattle.def_typing.specs.Things.{Standing}
use Rattle.def_typing.specs.Parts.{Among, here, later}
use Rattle.def_typing.specs.Declarations.{Declaration}
use Rattle.def_typing.specs.Definitions.{Context, Placed, AllFollow, nothing_follows, one_follows}
use Rattle.law_typing.proofs.Heading.{nil_right, append_assoc}
use Rattle.law_typing.proofs.Combining.{Decided, holds, fails_it, decided_as}
use Rattle.law_rules.specs.Exports.{all_reached, AreMet, nothing_met, first_met, met_again, own_met}

abbrev Entries : Type 0
Entries = List (ℕ × List Made)

abbrev met_as : ℕ × List Made → ModuleTypes
met_as e = record { number = e.0; made = e.1 }

abbrev all_met : Entries → List ModuleTypes
all_met es = map met_as es

same_number : (a b : ℕ) → Decided (a ≡ b) (nat_eq a b)
same_number a b = by (nat_eq a b) refl
  where
    by : (t : Bool) → nat_eq a b ≡ t → Decided (a ≡ b) t
    by true e = let z : a ≡ b = grind (arith, nat_tests, e) in holds z
    by false e = fails_it (λ q. let z : nat_eq a b ≡ true = grind (arith, nat_tests, q) in let y = sym z ∙ e in
        absurd cc)

-- a module whose types are there
abbrev IsMet : ℕ → Entries → Type 0
IsMet n es = (x : ModuleTypes) × Among x (all_met es) × (x.number ≡ n)

later_by : (n : ℕ) (e : ℕ × List Made) (es : Entries) {c : Bool} → (n ≡ e.0 → ⊥) → Decided (IsMet n es) c
    → Decided (IsMet n (e ∷ es)) c
later_by n e es q d = decided_as (λ z. (z.0, later z.1, z.2)) (λ z. not_first z) d
  where
    not_first : IsMet n (e ∷ es) → IsMet n es
    not_first (_, here, z) = absurd (q (sym z))
    not_first (x, later m, z) = (x, m, z)

met_by : (n : ℕ) (e : ℕ × List Made) (es : Entries) (o : Option (List Made)) {b : Bool} → Decided (n ≡ e.0) b
    → Decided (IsMet n es) (is_some o) → Decided (IsMet n (e ∷ es)) (is_some (cond b (Some e.1) o))
met_by n e es o (holds q) d = holds (met_as e, here, sym q)
met_by n e es o (fails_it q) d = later_by n e es q d

met_decided : (n : ℕ) (es : Entries) → Decided (IsMet n es) (is_some (lookup (nat_eq n) es))
met_decided n [] = fails_it (λ z. elim z.1 [ ])
met_decided n (e ∷ es) = met_by n e es (lookup (nat_eq n) es) (same_number n e.0) (met_decided n es)

last_by : (n : ℕ) (v : List Made) (e : ℕ × List Made) (es : Entries) {b : Bool} → Decided (n ≡ e.0) b
    → (IsMet n (e ∷ es) → ⊥) → insert_entry nat_eq es n v ≡ es ++ (n, v) ∷ []
    → cond b ((e.0, v) ∷ es) (e ∷ insert_entry nat_eq es n v) ≡ e ∷ (es ++ (n, v) ∷ [])
last_by n v e es (holds q) c h = absurd (c (met_as e, here, sym q))
last_by n v e es (fails_it q) c h = ap (λ (fs : Entries). e ∷ fs) h

last_met : (n : ℕ) (v : List Made) (es : Entries) → (IsMet n es → ⊥) → insert_entry nat_eq es n v ≡ es ++ (n, v) ∷ []
last_met n v [] c = refl
last_met n v (e ∷ es) c = last_by n v e es (same_number n e.0) c (last_met n v es (λ z. c (z.0, later z.1, z.2)))

all_both : (es fs : Entries) → all_met (es ++ fs) ≡ all_met es ++ all_met fs
all_both [] fs = refl
all_both (e ∷ es) fs = ap (λ (ms : List ModuleTypes). met_as e ∷ ms) (all_both es fs)

step_by : (m : ModuleTypes) (front : List ModuleTypes) (so : Entries) → AreMet front (all_met so) → {b : Bool}
    → Decided (IsMet m.number so) b → AreMet (m ∷ front) (all_met (cond b so (insert_entry nat_eq so m.number m.made)))
step_by m front so h (holds (x, i, q)) = met_again h i q
step_by m front so h (fails_it c) = subst (λ (ms : List ModuleTypes). AreMet (m ∷ front) ms)
    (sym (ap (λ (es : Entries). all_met es) (last_met m.number m.made so c) ∙ all_both so ((m.number, m.made) ∷ [])))
    (first_met h (λ x i q. c (x, i, q)))

abbrev onto : List ModuleTypes → List ModuleTypes → List ModuleTypes
onto front [] = front
onto front (m ∷ ms) = onto (m ∷ front) ms

onto_is : (xs front : List ModuleTypes) → onto front xs ≡ reverse xs ++ front
onto_is [] front = refl
onto_is (x ∷ xs) front = onto_is xs (x ∷ front) ∙ sym (append_assoc (reverse xs) (x ∷ []) front)
    ∙ ap (λ (ys : List ModuleTypes). ys ++ front) (sym (reverse-append (x ∷ []) xs))

met_all : (ms front : List ModuleTypes) (so : Entries) → AreMet front (all_met so)
    → AreMet (onto front ms) (all_met (fold with_reached so ms))
met_all [] front so h = h
met_all (m ∷ ms) front so h = met_all ms (m ∷ front) (with_reached so m)
    (step_by m front so h (met_decided m.number so))

fold_both : (so : Entries) (xs ys : List ModuleTypes)
    → fold with_reached (fold with_reached so xs) ys ≡ fold with_reached so (xs ++ ys)
fold_both so [] ys = refl
fold_both so (x ∷ xs) ys = fold_both (with_reached so x) xs ys

tables_are : (ts : List Table) (so : Entries) → fold with_table so ts ≡ fold with_reached so (all_reached ts)
tables_are [] so = refl
tables_are (t ∷ ts) so = tables_are ts (with_table so t) ∙ fold_both so t.reached (all_reached ts)

types_listed : (es : Entries) (so : List ModuleTypes) → fold export.with_types so es ≡ so ++ all_met es
types_listed [] so = sym (nil_right so)
types_listed (e ∷ es) so = types_listed es (so ++ met_as e ∷ []) ∙ append_assoc so (met_as e ∷ []) (all_met es)

own_same : (home : ℕ) (ms : List Made) → own_types home ms ≡ own_met home ms
own_same home [] = refl
own_same home (m ∷ ms) = refl

pub others_kept : {exports : ℕ → Ident → Standing} {c last : Context} {ds : List Declaration} {ps : List Placed}
    → AllFollow exports c ds ps last → last.types.others ≡ c.types.others
others_kept nothing_follows = refl
others_kept (one_follows a f k) = others_kept k ∙ ap (λ (t : Types). t.others) f.types

pub types_are : (tables : List Table) (types : Types) → types.others ≡ others_of tables → (ms : List ModuleTypes)
    × AreMet (reverse (all_reached tables)) ms × (reached_of types ≡ ms ++ own_met types.home types.own)
types_are tables types q = (
  all_met types.others,
  subst (λ (es : Entries). AreMet (reverse (all_reached tables)) (all_met es)) (sym (q ∙ tables_are tables []))
      (subst (λ (front : List ModuleTypes). AreMet front (all_met (fold with_reached [] (all_reached tables))))
      (onto_is (all_reached tables) [] ∙ nil_right (reverse (all_reached tables)))
      (met_all (all_reached tables) [] [] nothing_met)),
  ap (λ (ms : List ModuleTypes). ms ++ own_types types.home types.own) (types_listed types.others [])
      ∙ ap (λ (ms : List ModuleTypes). all_met types.others ++ ms) (own_same types.home types.own),
)
