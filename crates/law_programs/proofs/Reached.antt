-- What is asked of the tables with which a module is checked, and of the types that they reach.
use Rattle.std.proofs.Common.{◌≡◌, ℕ, ◌==◌, Bool, true, false, cond, List, [], ◌∷◌, ◌++◌, Option, Some, None, refl, sym, ap, ◌∙◌}
use Rattle.std.proofs.lemmas.Bool.{eqb-true}
use Rattle.std.specs.Prelude.{slice_get}
use Rattle.std.specs.List.{AllByRecursion, fold}
use Rattle.typed_tree.specs.declared.types.Home.{Home}
use Rattle.typed_tree.specs.declared.types.Home.TheVariants as home
use Rattle.typed_tree.specs.declared.types.TypeNo.{TypeNo}
use Rattle.typed_tree.specs.declared.meaning.Meaning.{Meaning}
use Rattle.typed_tree.specs.declared.meaning.Meaning.TheVariants as meaning
use Rattle.typed_tree.specs.declared.shape.Made.{Made}
use Rattle.typed_tree.specs.declared.table.ModuleTypes.{ModuleTypes}
use Rattle.typed_tree.specs.declared.table.Table.{Table}
use Rattle.typed_tree.specs.declared.known_types.Types.{Types}
use Rattle.typed_tree.specs.Known.{in_list, made_in, made_from, made_at}
use Rattle.check_definition.specs.Predeclared.{console}
use Rattle.check_definition.specs.Export.{with_types as reached_with, own_types, reached_of}
use Rattle.law_well_formed.specs.FormedTables.{IsExport, AreExports}
use Rattle.law_well_formed.proofs.Trees.{at}
use Rattle.law_well_formed.specs.FormedKnown.{HasReached}
use Rattle.law_well_formed.proofs.Gathered.{each_at}
use Rattle.law_programs.specs.Carried.{IsElsewhere, ExportsElsewhere, TablesElsewhere, ExportsWords, TablesWords, ReachedIndexed, TablesIndexed}
use Rattle.law_programs.specs.TypingTables.{TableStands}

-- ---- types that have all that a module reaches

abbrev of_entry : ℕ × List Made → ModuleTypes
of_entry e = record { number = e.0; made = e.1 }

module _ (F : ModuleTypes → Type 0) where
  split : (xs ys : List ModuleTypes) → AllByRecursion F (xs ++ ys) → AllByRecursion F xs × AllByRecursion F ys
  split [] ys h = (tt, h)
  split (x ∷ xs) ys h = let k = split xs ys h.1 in ((h.0, k.0), k.1)

  others_split : (es : List (ℕ × List Made)) (so : List ModuleTypes) → AllByRecursion F (fold reached_with so es)
      → AllByRecursion F so × AllByRecursion (λ e. F (of_entry e)) es
  others_split [] so h = (h, tt)
  others_split (e ∷ es) so h = let k = others_split es (reached_with so e) h in
      let l = split so (of_entry e ∷ []) k.0 in (l.0, (l.1.0, k.1))

module _ (a b : Types) (has : HasReached b (reached_of a)) where
  abbrev HasOne : ModuleTypes → Type 0
  HasOne m = (n : ℕ) (x : Made) → slice_get m.made n ≡ Some x → made_in b m.number n ≡ Some x

  parts : AllByRecursion HasOne (fold reached_with [] a.others) × AllByRecursion HasOne (own_types a.home a.own)
  parts = split HasOne (fold reached_with [] a.others) (own_types a.home a.own) has

  own_has : (ms : List Made) → AllByRecursion HasOne (own_types a.home ms) → (n : ℕ) (x : Made)
      → slice_get ms n ≡ Some x → made_in b a.home n ≡ Some x
  own_has [] h n x g = absurd cc
  own_has (m ∷ ms) h n x g = h.0 n x g

  other_has : (k n : ℕ) (x : Made) (o : Option (List Made)) → at k a.others ≡ o → in_list n o ≡ Some x
      → made_in b k n ≡ Some x
  other_has k n x None e g = absurd cc
  other_has k n x (Some l) e g = each_at (λ (y : ℕ × List Made). HasOne (of_entry y)) a.others
      (others_split HasOne a.others [] parts.0).1 k l e n x g

  made_stays : (k n : ℕ) (x : Made) → made_in a k n ≡ Some x → made_in b k n ≡ Some x
  made_stays k n x g = by (k == a.home) refl g where
    by : (c : Bool) → (k == a.home) ≡ c → cond c (slice_get a.own n) (in_list n (at k a.others)) ≡ Some x
        → made_in b k n ≡ Some x
    by true q h = ap (λ (i : ℕ). made_in b i n) (eqb-true k a.home q) ∙ own_has a.own parts.1 n x h
    by false q h = other_has k n x (at k a.others) refl h

  pub all_stay : (t : TypeNo) (m : Made) → made_at a t ≡ Some m → made_at b t ≡ Some m
  all_stay t m e = from t.home t.number e where
    from : (h : Home) (n : ℕ) → made_from a h n ≡ Some m → made_from b h n ≡ Some m
    from home.Predeclared n g = absurd cc
    from (home.Module k) n g = made_stays k n m g

-- ---- tables

-- the table of another module
pub record IsOther (here : ℕ) (t : Table) : Type 0 where
  pub elsewhere : ExportsElsewhere here t.exported
  pub words : ExportsWords t.exported
  pub indexed : (types : Types) → HasReached types t.reached → ReachedIndexed types t.reached

one_elsewhere : (here n : ℕ) (m : Meaning) → (n ≡ here → ⊥) → IsExport n m → IsElsewhere here m
one_elsewhere here n (meaning.Variable v) a e = λ h. a (sym e ∙ h)
one_elsewhere here n (meaning.Procedure p) a e = tt
one_elsewhere here n (meaning.Constant v) a e = tt
one_elsewhere here n (meaning.Type t i) a e = tt
one_elsewhere here n (meaning.Local v) a e = absurd e
one_elsewhere here n (meaning.Field f) a e = tt
one_elsewhere here n (meaning.LocalProcedure p) a e = tt
one_elsewhere here n meaning.Ahead a e = tt
one_elsewhere here n (meaning.Standard f) a e = tt
one_elsewhere here n (meaning.Module k) a e = tt

all_elsewhere : (here n : ℕ) (es : List (List ℕ × Meaning)) → (n ≡ here → ⊥) → AreExports n es
    → ExportsElsewhere here es
all_elsewhere here n [] a e = tt
all_elsewhere here n (x ∷ es) a e = (one_elsewhere here n x.1 a e.0, all_elsewhere here n es a e.1)

pub other_of : (here : ℕ) (t : Table) → TableStands t.number t → (t.number ≡ here → ⊥) → IsOther here t
other_of here t h a = record {
  elsewhere = all_elsewhere here t.number t.exported a h.exports.own;
  words =
      h.exports.words;
  indexed = h.indexed;
}

pub console_other : (here : ℕ) → IsOther here console
unfolding console
console_other here = record { elsewhere = (tt, tt); words = (tt, tt); indexed = λ types h. tt }

pub all_are_elsewhere : (here : ℕ) (ts : List Table) → AllByRecursion (IsOther here) ts → TablesElsewhere here ts
all_are_elsewhere here [] p = tt
all_are_elsewhere here (t ∷ ts) p = (p.0.elsewhere, all_are_elsewhere here ts p.1)

pub all_words : (here : ℕ) (ts : List Table) → AllByRecursion (IsOther here) ts → TablesWords ts
all_words here [] p = tt
all_words here (t ∷ ts) p = (p.0.words, all_words here ts p.1)

pub all_indexed : (here : ℕ) (types : Types) (ts : List Table) → AllByRecursion (IsOther here) ts
    → AllByRecursion (λ t. HasReached types t.reached) ts → TablesIndexed types ts
all_indexed here types [] p h = tt
all_indexed here types (t ∷ ts) p h = (p.0.indexed types h.0, all_indexed here types ts p.1 h.1)
