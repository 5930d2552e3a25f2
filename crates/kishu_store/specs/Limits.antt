-- What a store holds at most, and the profile of what is added to it.
use Rattle.std.specs.Prelude.{ℕ, ◌^◌}
use Rattle.kishu_language.specs.declared.profile.Profile.{Profile}
use Rattle.kishu_language.specs.declared.profile.Profile.TheVariants.{One}

-- the most records that a store holds
abbrev pub most_records : ℕ
most_records = 1000000

-- the longest name of a branch and the longest body of a record, in bytes
abbrev pub longest_title : ℕ
longest_title = 255

abbrev pub longest_body : ℕ
longest_body = 2 ^ 30

-- the most bytes that the pictures of a commit's table take
abbrev pub most_pictured : ℕ
most_pictured = 2 ^ 28

-- the profile under which new cells run
abbrev pub newest_profile : Profile
newest_profile = One
