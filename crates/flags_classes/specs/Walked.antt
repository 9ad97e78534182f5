-- What the walk over the left halfsegments of two objects promises: which of F and of G comes next, in the order of left halfsegments, from an element
-- of each on, and where it goes on.
use Rattle.std.specs.Prelude.{ℕ, ◌+◌, ◌<◌, ◌≤◌, ◌≡◌, Bool, true, false, cond, List, Option, Some, None}
use Rattle.plane.specs.declared.Segment.{Segment}
use Rattle.plane.specs.declared.Halfsegment.{Halfsegment}
use Rattle.plane.specs.Plane.{is_same_segment, comes_before}
use Rattle.scene.specs.declared.Layout.{Layout}
use Rattle.scene.specs.Conditions.{half, left_test}
use Rattle.flags_classes.specs.declared.merged.Step.{Step}
use Rattle.flags_classes.specs.declared.merged.Step.TheVariants.{OfF, OfG, OfBoth}

-- the order of left halfsegments, by their segments
abbrev pub left_half : Segment → Halfsegment
left_half t = record { segment = t; is_left = true }

abbrev pub left_before : Segment → Segment → Bool
left_before t u = comes_before (left_half t) (left_half u)

-- there is none from the element i up to k
abbrev pub NoneLeft : List ℕ → Layout → ℕ → ℕ → Type 0
NoneLeft s l i k = (m : ℕ) → i ≤ m → m < k → left_test s l m ≡ false

-- k is the first left halfsegment from i on, or the number of elements where there is none
pub record NextLeft (s : List ℕ) (l : Layout) (i k : ℕ) : Type 0 where
  pub onwards : i ≤ k
  pub within : k ≤ l.count
  pub passed : NoneLeft s l i k
  pub there : k < l.count → left_test s l k ≡ true

-- the first one from i on, if there is one
abbrev pub FirstLeft : List ℕ → Layout → ℕ → Option ℕ → Type 0
FirstLeft s l i (Some k) = NextLeft s l i k × (k < l.count)
FirstLeft s l i None = NextLeft s l i l.count

-- the first of t, at i, and u, at j
abbrev pub step_of : Segment → Segment → ℕ → ℕ → Step
step_of t u i j = cond (is_same_segment t u) (OfBoth i j) (cond (left_before t u) (OfF i j) (OfG i j))

module _ (s : List ℕ) (f g : Layout) where
  -- a of F and b of G are the first from i and j on
  pub record Nexts (i j a b : ℕ) : Type 0 where
    pub of_f_lem : NextLeft s f i a
    pub of_g_lem : NextLeft s g j b

  -- their segments, compared
  abbrev pub same : ℕ → ℕ → Bool
  same a b = is_same_segment (half s f a).segment (half s g b).segment

  abbrev pub earlier : ℕ → ℕ → Bool
  earlier a b = left_before (half s f a).segment (half s g b).segment

  -- the one of F, of G or of both comes next
  pub record NextOfF (i j a b : ℕ) : Type 0 where
    pub nexts : Nexts i j a b
    pub there : a < f.count
    pub compared : b < g.count → (same a b ≡ false) × (earlier a b ≡ true)

  pub record NextOfG (i j a b : ℕ) : Type 0 where
    pub nexts : Nexts i j a b
    pub there : b < g.count
    pub compared : a < f.count → (same a b ≡ false) × (earlier a b ≡ false)

  pub record NextOfBoth (i j a b : ℕ) : Type 0 where
    pub nexts : Nexts i j a b
    pub there_f : a < f.count
    pub there_g : b < g.count
    pub compared : same a b ≡ true

  abbrev pub Stepped : ℕ → ℕ → Option Step → Type 0
  Stepped i j (Some (OfF a b)) = NextOfF i j a b
  Stepped i j (Some (OfG a b)) = NextOfG i j a b
  Stepped i j (Some (OfBoth a b)) = NextOfBoth i j a b
  Stepped i j None = Nexts i j f.count g.count

-- where the walk goes on in F and in G, from i and from j: past what came, and of the other from its first one on
abbrev pub f_after : ℕ → Option Step → ℕ
f_after i (Some (OfF a b)) = a + 1
f_after i (Some (OfG a b)) = a
f_after i (Some (OfBoth a b)) = a + 1
f_after i None = i

abbrev pub g_after : ℕ → Option Step → ℕ
g_after j (Some (OfF a b)) = b
g_after j (Some (OfG a b)) = b + 1
g_after j (Some (OfBoth a b)) = b + 1
g_after j None = j
