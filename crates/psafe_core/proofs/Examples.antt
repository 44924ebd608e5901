-- Small records, and what they give.
use Rattle.std.proofs.Common.{◌≡◌, ℕ, List, [], ◌∷◌, codes, refl}
use Rattle.std.specs.Str.{chars, is_utf8}
use Rattle.psafe_file.specs.Fields.{SafeField}
use Rattle.psafe_file.specs.Kinds.{created_kind, group_kind, title_kind}
use Rattle.psafe_core.specs.Records.{group_names, text_of, time_of}

-- Every dot separates two names, and an empty name is none.
two_groups : group_names (codes "a.b") ≡ codes "a" ∷ codes "b" ∷ []
two_groups = refl

empty_names : group_names (codes "..a b..c.") ≡ codes "a b" ∷ codes "c" ∷ []
empty_names = refl

no_groups : group_names (codes "...") ≡ []
no_groups = refl

abbrev field : ℕ → List ℕ → SafeField
field kind content = record { offset = 0; kind = kind; content = content }

-- A time of three bytes is passed over, also after one of four.
time_of_three : time_of created_kind 7 (field created_kind (1 ∷ 2 ∷ 3 ∷ []) ∷ []) ≡ 7
time_of_three = refl

last_time : time_of created_kind 7 (field created_kind (1 ∷ 1 ∷ 0 ∷ 0 ∷ []) ∷ field created_kind (1 ∷ 2 ∷ 3 ∷ []) ∷ []) ≡ 62135597057
last_time = refl

-- The last title counts; a record without one has an empty title.
last_title : text_of title_kind (field title_kind (codes "one") ∷ field title_kind (codes "two") ∷ field group_kind (codes "g") ∷ []) ≡ codes "two"
unfolding is_utf8 chars lib.Utf8.encode
last_title = refl

no_title : text_of title_kind (field group_kind (codes "g") ∷ []) ≡ []
no_title = refl
