-- Finite maps joined key by key: at each key what the maps have there, made one.
use Rattle.std.specs.Prelude.{List, [], ◌∷◌, ◌++◌, Option, None, Some}
use Rattle.std.specs.declared.cmp.Ordering.{Ordering}
use Rattle.std.specs.declared.cmp.Ordering.TheVariants.{Less, Equal, Greater}
use Rattle.std.specs.FinMap.{FinMap, empty, get, insert, keys}

-- by an order: x where y is the greater, then y where they tie, then z
abbrev pub by_order : {A : Type 0} → Ordering → A → A → A → A
by_order Less x y z = x
by_order Equal x y z = y
by_order Greater x y z = z

-- the greater of two
abbrev pub greater : {A : Type 0} → (A → A → Ordering) → A → A → A
greater R x y = by_order (R x y) y x x

-- the one with the greater key; where the keys tie, the two joined
abbrev pub by_key : {A K : Type 0} → (K → K → Ordering) → (A → K) → (A → A → A) → A → A → A
by_key R key join x y = by_order (R (key x) (key y)) y (join x y) x

-- two optional values, joined where both are there
abbrev pub join_options : {A : Type 0} → (A → A → A) → Option A → Option A → Option A
join_options join None p = p
join_options join (Some x) None = Some x
join_options join (Some x) (Some y) = Some (join x y)

-- the optional values of a list, joined
abbrev pub gather : {A : Type 0} → (A → A → A) → List (Option A) → Option A
gather join [] = None
gather join (o ∷ os) = join_options join o (gather join os)

-- the map with a value put at a key, or left as it is where there is none
abbrev pub put_some : {K A : Type 0} {R : K → K → Ordering} → K → Option A → FinMap R A → FinMap R A
put_some k None m = m
put_some k (Some x) m = insert m k x

-- the map that has at each of the keys what is said for it
abbrev pub tabulate : {K A : Type 0} {R : K → K → Ordering} → List K → (K → Option A) → FinMap R A
tabulate [] value = empty
tabulate (k ∷ ks) value = put_some k (value k) (tabulate ks value)

-- two maps, joined key by key
unfoldable pub unite : {K A : Type 0} {R : K → K → Ordering} → (A → A → A) → FinMap R A → FinMap R A
    → FinMap R A
unite join m n = tabulate (keys m ++ keys n) (λ k. join_options join (get m k) (get n k))

-- many maps, joined key by key
abbrev pub unite_all : {K A : Type 0} {R : K → K → Ordering} → (A → A → A) → List (FinMap R A)
    → FinMap R A
unite_all join [] = empty
unite_all join (m ∷ ms) = unite join m (unite_all join ms)
