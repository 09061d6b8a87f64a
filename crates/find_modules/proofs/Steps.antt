-- The steps of the search for modules.
use Rattle.std.proofs.Common.{◌≡◌, ℕ, ◌+◌, ◌<◌, ◌≤◌, ◌||◌, Bool, true, false, cond, is_some, List, [], ◌∷◌, ◌++◌, length, take, map, get_or, Option, None, Some, refl, sym, ap, subst, ◌∙◌, append_assoc, rules, arith, All, if◌then◌else◌}
use Rattle.std.specs.List.{fold, list_any}
use Rattle.std.proofs.lemmas.List.{append-nil, map-append, take_all, take_more, take-append-le, length-append}
use Rattle.std.proofs.lemmas.List.Sums.{fold-append}
use Rattle.std.proofs.lemmas.List.Elements.{All-append, All-cons, All-nil}
use Rattle.std.proofs.lemmas.Bool.{false≢true}
use Rattle.m2_tree.specs.Names.{same_name, is_console}
use Rattle.typed_tree.specs.Names.{find_name, enter_name}
use Rattle.find_modules.specs.Imports.{Imports}
use Rattle.find_modules.specs.Found.{Folders, AreSources, AreFound, Knows, first_of, name_of, is_among, with_name, each_once, SourcesImport, ModulesImport, NoModule, Further, AreOf, AreAdded}
use Rattle.find_modules.specs.declared.found.FoundModule.{FoundModule}

-- ---- what modules import

imports_behind : (ms : List FoundModule) (names : List (List ℕ)) (m : FoundModule) (more : List (List ℕ))
    → ModulesImport ms names → SourcesImport m.sources more → ModulesImport (ms ++ m ∷ []) (names ++ more)
imports_behind _ _ m more NoModule h = subst (λ ns. ModulesImport (m ∷ []) ns) (append-nil more)
    (Further m [] more [] h NoModule)
imports_behind _ _ m more (Further n ns first others i is) h =
    subst (λ all. ModulesImport (n ∷ (ns ++ m ∷ [])) all) (sym (append_assoc first others more))
    (Further n (ns ++ m ∷ []) first (others ++ more) i (imports_behind ns others m more is h))

pub any_of_map : (name : List ℕ) (ms : List FoundModule)
    → list_any (λ m. same_name name m.name) ms ≡ is_among name (map name_of ms)
any_of_map name [] = refl
any_of_map name (m ∷ ms) = ap (λ b. same_name name m.name || b) (any_of_map name ms)

-- ---- names that are known

some_of_cond : (b : Bool) (v : ℕ) (o : Option ℕ) → is_some (cond b (Some v) o) ≡ (b || is_some o)
some_of_cond true v o = refl
some_of_cond false v o = refl

found_any : (name : List ℕ) (es : List (List ℕ × ℕ)) → is_some (find_name name es) ≡ is_among name (map first_of es)
found_any name [] = refl
found_any name (e ∷ es) = some_of_cond (same_name name e.0) e.1 (find_name name es)
    ∙ ap (λ (b : Bool). same_name name e.0 || b) (found_any name es)

pub known_none : (name : List ℕ) (es : List (List ℕ × ℕ)) → find_name name es ≡ None
    → is_among name (map first_of es) ≡ false
known_none name es h = sym (found_any name es) ∙ ap is_some h

pub known_some : (name : List ℕ) (es : List (List ℕ × ℕ)) (v : ℕ) → find_name name es ≡ Some v
    → is_among name (map first_of es) ≡ true
known_some name es v h = sym (found_any name es) ∙ ap is_some h

or_false : (a b : Bool) → (a || b) ≡ false → (a ≡ false) × (b ≡ false)
or_false false b h = (refl, h)
or_false true b h = absurd (false≢true (sym h))

new_name : (name : List ℕ) (v : ℕ) (es : List (List ℕ × ℕ)) → is_among name (map first_of es) ≡ false
    → map first_of (enter_name name v es) ≡ map first_of es ++ name ∷ []
new_name name v [] h = refl
new_name name v (e ∷ es) h =
    let parts : (same_name name e.0 ≡ false) × (is_among name (map first_of es) ≡ false) =
    or_false (same_name name e.0) (is_among name (map first_of es)) h in
    subst (λ (b : Bool). map first_of (cond b ((e.0, v) ∷ es) (e ∷ enter_name name v es)) ≡ e.0
    ∷ (map first_of es ++ name ∷ [])) (sym parts.0)
    (ap (λ (ns : List (List ℕ)). e.0 ∷ ns) (new_name name v es parts.1))

pub known_more : (name : List ℕ) (v : ℕ) (es new : List (List ℕ × ℕ)) (ms more : List FoundModule) (m : FoundModule)
    → is_among name (map first_of es) ≡ false → new ≡ enter_name name v es → more ≡ ms ++ m ∷ [] → m.name ≡ name
    → Knows es ms → Knows new more
known_more name v es new ms more m unknown is behind named h =
    ap (map first_of) is ∙ new_name name v es unknown ∙ ap (λ (ns : List (List ℕ)). ns ++ name ∷ []) h
    ∙ ap (λ (n : List ℕ). map name_of ms ++ n ∷ []) (sym named) ∙ sym (map-append name_of ms (m ∷ []))
    ∙ ap (map name_of) (sym behind)

module _ (gives : Folders) (count : ℕ) where
  -- ---- modules that are added

  pub none_added : (ms : List FoundModule) → AreAdded gives count [] ms ms
  none_added ms = record {
    more = [];
    behind = sym (append-nil ms);
    new_names = refl;
    found =
        All-nil (λ m. AreSources gives count m.name m.sources);
  }

  pub one_known : (name : List ℕ) (ms : List FoundModule) → (is_console name || is_among name (map name_of ms)) ≡ true
      → AreAdded gives count (name ∷ []) ms ms
  one_known name ms known = record {
    more = [];
    behind = sym (append-nil ms);
    new_names = ap (λ b. if b then map name_of ms else (map name_of ms ++ name ∷ [])) (sym known);
    found = All-nil (λ m. AreSources gives count m.name m.sources);
  }

  pub one_added : (name : List ℕ) (old new : List FoundModule) (m : FoundModule)
      → (is_console name || is_among name (map name_of old)) ≡ false → new ≡ old ++ m ∷ [] → m.name ≡ name
      → AreSources gives count name m.sources → AreAdded gives count (name ∷ []) old new
  one_added name old new m unknown behind named found = record {
    more = m ∷ [];
    behind = behind;
    new_names = ap (map name_of) behind ∙ map-append name_of old (m ∷ []) ∙ ap (λ n. map name_of old ++ n ∷ []) named
        ∙ ap (λ b. if b then map name_of old else (map name_of old ++ name ∷ [])) (sym unknown);
    found = All-cons (λ m. AreSources gives count m.name m.sources) m []
        (subst (λ n. AreSources gives count n m.sources) (sym named) found)
        (All-nil (λ m. AreSources gives count m.name m.sources));
  }

  both_added : (some others : List (List ℕ)) (old between new : List FoundModule)
      → AreAdded gives count some old between → AreAdded gives count others between new
      → AreAdded gives count (some ++ others) old new
  both_added some others old between new a b = record {
    more = a.more ++ b.more;
    behind = b.behind ∙ ap (λ ms. ms ++ b.more) a.behind ∙ append_assoc old a.more b.more;
    new_names = b.new_names ∙ ap (λ ns. fold with_name ns others) a.new_names
        ∙ sym (fold-append with_name (map name_of old) some others);
    found = All-append (λ m. AreSources gives count m.name m.sources) a.more b.more a.found b.found;
  }

  pub one_more_added : (names : List (List ℕ)) (i : ℕ) (name : List ℕ) (old between new : List FoundModule)
      → i < length names → name ≡ get_or names i name → AreAdded gives count (take i names) old between
      → AreAdded gives count (name ∷ []) between new → AreAdded gives count (take (i + 1) names) old new
  one_more_added names i name old between new l e a b =
      subst (λ ns. AreAdded gives count ns old new)
      (ap (λ n. take i names ++ n ∷ []) e ∙ sym (take_more names i name l))
      (both_added (take i names) (name ∷ []) old between new a b)

  pub all_added : (names : List (List ℕ)) (i : ℕ) (old new : List FoundModule) → length names ≤ i
      → AreAdded gives count (take i names) old new → AreAdded gives count names old new
  all_added names i old new l a = subst (λ ns. AreAdded gives count ns old new) (take_all i names l) a

  -- ---- the modules of a program

  -- so many of the modules are searched for what they import
  pub record IsSoFar (program : List ℕ) (at : ℕ) (modules : List FoundModule) : Type 0 where
    pub own : List (List ℕ)
    pub others : List (List ℕ)
    pub program_imports : Imports program own
    pub modules_import : ModulesImport (take at modules) others
    pub once : map name_of modules ≡ each_once (own ++ others)
    pub found : AreFound gives count modules
    pub within : at ≤ length modules

  pub at_begin : (program : List ℕ) (own : List (List ℕ)) (old modules : List FoundModule) → old ≡ []
      → Imports program own → AreAdded gives count own old modules → IsSoFar program 0 modules
  at_begin program own old modules empty imports a = record {
    own = own;
    others = [];
    program_imports = imports;
    modules_import = NoModule;
    once = a.new_names ∙ ap (λ ms. fold with_name (map name_of ms) own) empty ∙ ap each_once (sym (append-nil own));
    found = subst (AreFound gives count) (sym (a.behind ∙ ap (λ ms. ms ++ a.more) empty)) a.found;
    within = omega arith;
  }

  taken : (old more new : List FoundModule) (at : ℕ) (m : FoundModule) → new ≡ old ++ more → at < length old
      → m ≡ get_or old at m → take at old ++ m ∷ [] ≡ take (at + 1) new
  taken old more new at m behind l e = ap (λ y. take at old ++ y ∷ []) e ∙ sym (take_more old at m l)
      ∙ sym (take-append-le (at + 1) old more (omega arith)) ∙ ap (take (at + 1)) (sym behind)

  length_behind : (old more new : List FoundModule) → new ≡ old ++ more → length old ≤ length new
  length_behind old more new behind = subst (λ ms. length old ≤ length ms) (sym behind)
      (subst (λ n. length old ≤ n) (sym (length-append old more)) (omega arith))

  pub one_later : (program : List ℕ) (at : ℕ) (m : FoundModule) (names : List (List ℕ)) (old new : List FoundModule)
      → at < length old → m ≡ get_or old at m → IsSoFar program at old → SourcesImport m.sources names
      → AreAdded gives count names old new → IsSoFar program (at + 1) new
  one_later program at m names old new l e s imports a =
      let longer = length_behind old a.more new a.behind in
      record {
        own = s.own;
        others = s.others ++ names;
        program_imports = s.program_imports;
        modules_import = subst (λ ms. ModulesImport ms (s.others ++ names)) (taken old a.more new at m a.behind l e)
            (imports_behind (take at old) s.others m names s.modules_import imports);
        once = a.new_names ∙ ap (λ ns. fold with_name ns names) s.once
            ∙ sym (fold-append with_name [] (s.own ++ s.others) names)
            ∙ ap each_once (append_assoc s.own s.others names);
        found = subst (AreFound gives count) (sym a.behind)
            (All-append (λ m. AreSources gives count m.name m.sources) old a.more s.found a.found);
        within = omega arith;
      }

  pub at_end : (program : List ℕ) (at : ℕ) (modules : List FoundModule) → length modules ≤ at
      → IsSoFar program at modules → AreOf gives count program modules
  at_end program at modules l s = record {
    own = s.own;
    others = s.others;
    program_imports = s.program_imports;
    modules_import = subst (λ ms. ModulesImport ms s.others) (take_all at modules l) s.modules_import;
    once = s.once;
    found = s.found;
  }

  pub begun : (program : List ℕ) (own slice : List (List ℕ)) (old modules : List FoundModule) → old ≡ [] → slice ≡ own
      → Imports program own → AreAdded gives count slice old modules → IsSoFar program 0 modules
  begun program own slice old modules empty same imports a =
      at_begin program own old modules empty imports (subst (λ ns. AreAdded gives count ns old modules) same a)

  pub gone_on : (program : List ℕ) (at : ℕ) (m : FoundModule) (names slice : List (List ℕ)) (old new : List FoundModule)
      → at < length old → m ≡ get_or old at m → IsSoFar program at old → SourcesImport m.sources names → slice ≡ names
      → AreAdded gives count slice old new → IsSoFar program (at + 1) new
  gone_on program at m names slice old new l e s imports same a =
      one_later program at m names old new l e s imports (subst (λ ns. AreAdded gives count ns old new) same a)
