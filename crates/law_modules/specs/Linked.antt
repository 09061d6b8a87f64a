-- The modules of a program, once they are linked, link first: what stands in the store.
use Rattle.std.specs.Prelude.{◌≡◌, ℕ, zero, suc, ◌+◌, ◌-◌, ◌*◌, ◌≤◌, true, List, [], ◌∷◌, ◌++◌, length, map, replicate, Option, Some, None, Ok, All, if◌then◌else◌}
use Rattle.std.specs.List.{list_any, flat_map}
use Rattle.std.specs.Str.{bytes_eq}
use Rattle.wasm_tree.specs.declared.module.WModule.{WModule}
use Rattle.wasm_tree.specs.declared.store.Callee.{Callee}
use Rattle.wasm_tree.specs.declared.store.Callee.TheVariants.{Put, Stop, Own}
use Rattle.wasm_tree.specs.declared.store.Instance.{Instance}
use Rattle.wasm_tree.specs.declared.store.Store.{Store}
use Rattle.wasm_tree.specs.declared.store.Value.{Value}
use Rattle.wasm_tree.specs.declared.store.Value.TheVariants.{I32}
use Rattle.wasm_tree.specs.Validity.{AreDistinct}
use Rattle.wasm_tree.specs.Machine.{Activation, Going}
use Rattle.wasm_tree.specs.Linking.{link}
use Rattle.typed_tree.specs.declared.typed_module.TypedModule.{TypedModule}
use Rattle.layout_storage.specs.Sizes.{size, page_size}
use Rattle.layout_storage.specs.Frames.{module_row}
use Rattle.layout_storage.specs.Texts.{characters, module_texts}
use Rattle.def_scheme.specs.Modules.{slots, functions, all_characters, part_of, all_slots, stack_begin, calls_from, typed_module, typed_link}

-- the modules that are reached, in start order
abbrev pub Program : Type 0
Program = List TypedModule

abbrev pub names : Program → List (List ℕ)
names p = map (λ m. m.name) p

abbrev pub imported_names : TypedModule → List (List ℕ)
imported_names m = map (λ i. i.name) m.imports

-- the module link, and the modules of the bodies
abbrev pub all : Program → (pages : ℕ) → List WModule
all p pages = typed_link p pages ∷ map typed_module p

abbrev pub variables : TypedModule → ℕ
variables m = size (module_row m)

-- the characters of its texts
abbrev pub text : TypedModule → List ℕ
text m = all_characters (module_texts m)

-- the functions that are its own
abbrev pub count : TypedModule → ℕ
count m = length (functions m)

-- ---- what stands in the store for modules, of which the first has this number, place, slot or
-- address

-- the place of its variables, the place of its texts, and its first slot
abbrev pub values : (place slot : ℕ) → Program → List Value
values place slot [] = []
values place slot (m ∷ ms) =
    I32 place ∷ I32 (place + variables m) ∷ I32 slot
    ∷ values (place + variables m + characters (module_texts m)) (slot + slots m) ms

-- in a row
abbrev pub numbers_from : (first : ℕ) → (count : ℕ) → List ℕ
numbers_from a zero = []
numbers_from a (suc n) = a ∷ numbers_from (suc a) n

abbrev pub own_from : (m first : ℕ) → (count : ℕ) → List Callee
own_from m first zero = []
own_from m first (suc n) = Own m first ∷ own_from m (suc first) n

abbrev pub somes_from : (first : ℕ) → (count : ℕ) → List (Option ℕ)
somes_from a zero = []
somes_from a (suc n) = Some a ∷ somes_from (suc a) n

abbrev pub owns : (m : ℕ) → Program → List Callee
owns m [] = []
owns m (b ∷ bs) = own_from m 0 (count b) ++ owns (m + 1) bs

-- the body and the procedures stand behind five helpers
abbrev pub table_slots : (address : ℕ) → Program → List (Option ℕ)
table_slots a [] = []
table_slots a (b ∷ bs) = somes_from (a + 5) (slots b) ++ table_slots (a + count b) bs

-- the bytes of variables, which are nought, and of texts
abbrev pub image : Program → List ℕ
image [] = []
image (b ∷ bs) = replicate (variables b) 0 ++ (text b ++ image bs)

abbrev pub places : (from : ℕ) → Program → List ℕ
places from [] = []
places from (b ∷ bs) = from ∷ (from + 1) ∷ (from + 2) ∷ places (from + 3) bs

-- ---- instances

-- the place of a name among others
abbrev pub place_of : (name : List ℕ) → List (List ℕ) → ℕ
place_of name [] = 0
place_of name (x ∷ xs) = if bytes_eq x name then 0 else suc (place_of name xs)

-- the globals of link that a module has
abbrev pub base_at : Program → List ℕ → ℕ
base_at p m = 1 + 3 * place_of m (names p)

abbrev pub text_at : Program → List ℕ → ℕ
text_at p m = 2 + 3 * place_of m (names p)

abbrev pub tab_at : Program → List ℕ → ℕ
tab_at p m = 3 + 3 * place_of m (names p)

abbrev pub own_places : Program → List ℕ → List ℕ
own_places p m = 0 ∷ base_at p m ∷ text_at p m ∷ tab_at p m ∷ []

abbrev pub imported_places : Program → List (List ℕ) → List ℕ
imported_places p ms = flat_map (λ m. base_at p m ∷ tab_at p m ∷ []) ms

abbrev pub module_instance : Program → (address : ℕ) → TypedModule → Instance
module_instance p a b = record {
  functions = 0 ∷ 1 ∷ numbers_from a (count b);
  tables = 0 ∷ [];
  memories = 0 ∷ [];
  globals = own_places p b.name ++ imported_places p (imported_names b);
}

abbrev pub instances : Program → (address : ℕ) → Program → List Instance
instances p a [] = []
instances p a (b ∷ bs) = module_instance p a b ∷ instances p (a + count b) bs

abbrev pub link_instance : Program → Instance
link_instance p = record {
  functions = 2 ∷ [];
  tables = 0 ∷ [];
  memories = 0 ∷ [];
  globals = 0 ∷ places 1 p;
}

-- ---- the store

abbrev pub link_values : Program → (pages : ℕ) → List Value
link_values p pages = I32 (page_size * pages) ∷ values 0 1 p

abbrev pub slots_in : Program → ℕ
slots_in p = all_slots (map part_of p)

-- the bytes of variables and texts
abbrev pub bytes_in : Program → ℕ
bytes_in p = stack_begin (map part_of p)

-- once link and these modules of the program are there, and those are not
abbrev pub store : Program → (pages spare : ℕ) → (before rest : Program) → Store
store p pages spare before rest = record {
  functions = Put ∷ Stop ∷ Own 0 0 ∷ owns 1 before;
  tables = record {
    slots = None ∷ (table_slots 3 before ++ replicate (slots_in rest) None);
    max = Some (1 + slots_in p);
  } ∷ [];
  memories = record {
    bytes = image before ++ replicate (bytes_in rest + spare) 0;
    max = Some pages;
  } ∷ [];
  globals = link_values p pages;
  instances = link_instance p ∷ instances p 3 before;
}

-- all of them
abbrev pub linked_store : Program → (pages : ℕ) → Store
linked_store p pages = store p pages (page_size * pages - bytes_in p) p []

-- link's run, before its first instruction
abbrev pub begin : Program → Activation
begin p = record {
  instance = 0;
  arity = 0;
  locals = [];
  labels = [];
  rest = calls_from (bytes_in p) 3 (map part_of p);
  stack = [];
}

-- ---- the law

abbrev pub IsAmong : List (List ℕ) → List ℕ → Type 0
IsAmong all name = list_any (λ other. bytes_eq other name) all ≡ true

-- The modules have names of their own, each imports modules of the program alone, and their
-- variables and texts have room in the memory.
pub record IsLinkable (p : Program) (pages : ℕ) : Type 0 where
  pub distinct : AreDistinct (names p)
  pub imports : All (λ m. All (IsAmong (names p)) (imported_names m)) p
  pub memory : 1 ≤ pages
  pub room : bytes_in p ≤ page_size * pages

abbrev pub ModulesLink : Type 0
ModulesLink = (p : Program) (pages : ℕ) → IsLinkable p pages
    → link (all p pages) ≡ Ok (Going (linked_store p pages) (begin p) [])
