-- How two words that name one file are told.
use Rattle.std.specs.Prelude.{◌++◌, codes}
use Rattle.clap.specs.Words.{Text}
use Rattle.options.specs.declared.file_clash.FileRole.{FileRole}
use Rattle.options.specs.declared.file_clash.FileRole.TheVariants.{League, From, Output, Log}
use Rattle.options.specs.declared.file_clash.SameFile.{SameFile}

-- the word that names such a file
abbrev pub role_word : FileRole → Text
role_word League = codes "LEAGUE"
role_word From = codes "--from"
role_word Output = codes "-o"
role_word Log = codes "--log"

abbrev pub words_of_same : FileRole → Text → FileRole → Text → Text
words_of_same role name other other_name =
    role_word role ++ (codes " " ++ (name ++ (codes " is the same file as " ++ (role_word other ++ (codes " " ++ other_name)))))

abbrev pub same_file_words : SameFile → Text
same_file_words same = words_of_same same.role same.name.now same.other same.other_name.now
