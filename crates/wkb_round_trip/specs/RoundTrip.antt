-- "what is written is read back as the same object" (02, Paper 9), in bytes: an accepted object is the one list of its elements in 01's order. Reading what was written
-- gives the object's length, and the object's bytes in a buffer that has room for them, whose later bytes are as they were.
use Rattle.std.specs.Prelude.{Ok, ℕ, ◌≤◌, ◌≡◌, List, ◌++◌, length, take, drop}
use Rattle.scene_written.specs.Bytes.{AreBytes}
use Rattle.wkb_reading.specs.Reading.{read_file, buffer_after}
use Rattle.wkb_writing.specs.Writing.{write_of, written_buffer}

-- s: an object's bytes
pub record ReadAgain (s wkb buffer : List ℕ) : Type 0 where
  pub answer : read_file wkb (length buffer) ≡ Ok (length s)
  pub after : buffer_after wkb buffer ≡ s ++ drop (length s) buffer

-- wkb: the buffer that it is written into; buffer: the one that it is read back into
abbrev pub RoundTrip : List ℕ → Type 0
RoundTrip s =
    AreBytes s → (wkb buffer : List ℕ) (n : ℕ) → write_of s (length wkb) ≡ Ok n → length s ≤ length buffer → ReadAgain s (take n (written_buffer s wkb)) buffer
