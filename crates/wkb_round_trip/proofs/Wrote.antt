-- What was written, where it was.
use Rattle.std.specs.Prelude.{Ok, Err}
use Prim.Native.Nat.{ℕ}
use mathlib.Core.Path.{◌≡◌, refl, sym, ap, ◌∙◌}
use mathlib.Core.Bool.{Bool, true, false, cond}
use mathlib.Core.List.{List, ◌++◌}
use lib.Dec.{leb}
use lib.ListN.{length, drop}
use Rattle.scene.specs.declared.Layout.{Layout}
use Rattle.scene.specs.Read.{CheckedObject}
use Rattle.scene.specs.Conditions.{is_region, object, check_object}
use Rattle.wkb_writing.specs.Wkb.{wkb_of}
use Rattle.wkb_writing.specs.Writing.{WriteAnswer, no_room, written_as, written_if, write_of, buffer_after, written_buffer}
use Rattle.wkb_writing.proofs.Answered.{by_room, buffer_by, region_refused}

pub record Wrote (s before : List ℕ) (n : ℕ) : Type 0 where
  pub layout : Layout
  pub taken : check_object s ≡ Ok layout
  pub flat : is_region layout.shape ≡ false
  pub long : n ≡ length (wkb_of (object s layout))
  pub after : written_buffer s before ≡ wkb_of (object s layout) ++ drop n before

module _ (s before : List ℕ) (n : ℕ) where
  fits : (m : ℕ) (b : Bool) → cond b (Ok m) no_room ≡ Ok n → n ≡ m
  fits m true q = cc
  fits m false q = cc

  written : (l : Layout) → check_object s ≡ Ok l → written_as (object s l) (length before) ≡ Ok n → is_region l.shape ≡ false → Wrote s before n
  written l t q flat = record {
    layout = l;
    taken = t;
    flat = flat;
    long = fits (length (wkb_of (object s l))) (leb (length (wkb_of (object s l))) (length before)) (sym (by_room s l (length before) flat) ∙ q);
    after = buffer_by s before t ∙ ap (λ (a : WriteAnswer). buffer_after (wkb_of (object s l)) a before) q;
  }

  by_type : (l : Layout) → check_object s ≡ Ok l → written_as (object s l) (length before) ≡ Ok n → (b : Bool) → is_region l.shape ≡ b → Wrote s before n
  by_type l t q false x = written l t q x
  by_type l t q true x = let e = region_refused s l (length before) x ∙ q in cc

  checked : (o : CheckedObject) → check_object s ≡ o → written_if s (length before) o ≡ Ok n → Wrote s before n
  checked (Ok l) t e = by_type l t e (is_region l.shape) refl
  checked (Err r) t e = cc

  pub wrote_means : write_of s (length before) ≡ Ok n → Wrote s before n
  unfolding write_of
  wrote_means e = checked (check_object s) refl e
