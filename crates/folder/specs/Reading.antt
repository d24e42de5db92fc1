-- What opening and reading a file come to: document 01, "Length 0 means the file is absent". A call that fails is never taken for the file's end.
use Rattle.std.specs.Prelude.{◌≡◌, ℕ, zero, suc, ◌≤◌, eqb, ℤ, pos, negsuc, Option, None, Some, Result, Ok, Err, IsOk}
use Rattle.std.specs.declared.io.Error.{Error}
use Rattle.std.specs.IoError.{raw_os_error}
use Rattle.notation.specs.Choice.{◌⇒◌else◌}
use Rattle.folder.specs.declared.Refusal.{Refusal}
use Rattle.folder.specs.declared.Refusal.TheVariants.{Unread, TooLarge}

-- a read: none where it failed, 0 at the file's end, any other number is that of the bytes that it brought
abbrev pub reading_of : Result ℕ Error → Option ℕ
reading_of (Ok n) = Some n
reading_of (Err e) = None

-- the error of opening a name that no file has
abbrev pub no_such_file : ℕ
no_such_file = 2

-- An opening that failed, by the number of the system's error, told like a read. A file that does not exist is absent: it ends at once. A file that is there
-- and does not open has failed, and so has an opening that failed in any other way.
abbrev pub refusal_of : Option ℤ → Option ℕ
refusal_of (Some (pos error)) = eqb error no_such_file ⇒ Some 0 else None
refusal_of (Some (negsuc error)) = None
refusal_of None = None

-- An opening, by what the call answered.
abbrev pub opening_of : {F : Type 0} → Result F Error → Option ℕ
opening_of (Ok file) = Some 1
opening_of (Err e) = refusal_of (raw_os_error e)

-- One read, by what it came to: it brings no more than there is room for.
abbrev pub Brings : (room : ℕ) → Option ℕ → Result ℕ Refusal → Type 0
Brings room None r = r ≡ Err Unread
Brings room (Some n) r = (r ≡ Ok n) × (n ≤ room)

-- What is taken of a file or of all files, by what the last call came to: nothing where it failed, all where it was the end, and where it brought bytes
-- the buffer is full.
abbrev pub Decides : {A : Type 0} → Option ℕ → Result A Refusal → Type 0
Decides None t = t ≡ Err Unread
Decides (Some zero) t = IsOk t
Decides (Some (suc n)) t = t ≡ Err TooLarge
