-- The names of months and locations. Assumes nothing.
use Rattle.std.specs.Prelude.{ℕ, if◌then◌else◌, List, codes, ◌==◌}

abbrev pub month_named : ℕ → List ℕ
month_named month =
    if month == 1 then codes "Jan"
    else (if month == 2 then codes "Feb"
    else (if month == 3 then codes "Mar"
    else (if month == 4 then codes "Apr"
    else (if month == 5 then codes "May"
    else (if month == 6 then codes "Jun"
    else (if month == 7 then codes "Jul"
    else (if month == 8 then codes "Aug"
    else (if month == 9 then codes "Sep"
    else (if month == 10 then codes "Oct"
    else (if month == 11 then codes "Nov"
    else codes "Dec"))))))))))

abbrev pub location_named : ℕ → List ℕ
location_named location =
    if location == 9 then codes "seconds"
    else (if location == 10 then codes "minutes"
    else (if location == 11 then codes "hours"
    else (if location == 12 then codes "day"
    else (if location == 13 then codes "date"
    else (if location == 14 then codes "month"
    else codes "year")))))
