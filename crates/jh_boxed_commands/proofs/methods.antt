mod Outlining
